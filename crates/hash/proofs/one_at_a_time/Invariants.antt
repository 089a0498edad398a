use Rattle.std.proofs.Common.{◌≡◌, drop}
use Rattle.hash.specs.OneAtATime.{absorb_all}
use Rattle.hash.proofs.one_at_a_time.Given as goal

-- what is left of the key goes into what is absorbed
abbrev pub invariant-loop-byte : goal.invariant-loop-byte
invariant-loop-byte l = absorb_all l.h (drop l.byte-index l.key) ≡ absorb_all 0 l.key
