-- `put_call`: the bytes of a record are its own.
use Prim.Native.Nat.{◌+◌, ◌-◌, ◌*◌}
use native.Mathlib.Omega.{arith}
use Rattle.log_codec.proofs.Stores.{part-stored}
use Rattle.call_log.proofs.Copied.{all-bytes, call-and-trailer}
use Rattle.call_log.proofs.writing.put_call.Goals as goal

pub returns : goal.returns
returns c =
    let s = c.args in
    let at = s.w.offset + 40 * s.w.count in
    let stored = part-stored s.bytes.now s.call.now at (at + 40 - at) (omega arith) c.copy_from_slice.ensures.len c.copy_from_slice.ensures.after in
    call-and-trailer s.bytes.now s.w s.call.now c.told-call (all-bytes s.call.now c.fits-call) stored c.put_trailer.ensures
