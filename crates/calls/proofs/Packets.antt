-- The bytes of a list of packets, and packets of a size that an arrival may have.
use mathlib.Core.Path.{◌≡◌}
use mathlib.Core.List.{List, [], ◌∷◌, ◌++◌}
use Prim.Native.Nat.{◌+◌, ◌*◌, ◌≤◌}
use native.Mathlib.Omega.{arith}
use lib.ListN.{length}
use Rattle.pie.specs.Constants.{largest}
use Rattle.calls.specs.Packets.{Packet, Sized, bytes_of}

pub bytes-append : (ps qs : List Packet) → bytes_of (ps ++ qs) ≡ bytes_of ps + bytes_of qs
bytes-append [] qs = omega arith
bytes-append (p ∷ ps) qs = omega (arith, bytes-append ps qs)

pub sized-append : (ps qs : List Packet) → Sized ps → Sized qs → Sized (ps ++ qs)
sized-append [] qs a b = b
sized-append (p ∷ ps) qs a b = (a.0, a.1, sized-append ps qs a.2 b)

pub sized-rest : (ps qs : List Packet) → Sized (ps ++ qs) → Sized qs
sized-rest [] qs a = a
sized-rest (p ∷ ps) qs a = sized-rest ps qs a.2

pub sized-bytes : (ps : List Packet) → Sized ps → (length ps ≤ bytes_of ps) × (bytes_of ps ≤ largest * length ps)
sized-bytes [] a = omega arith
sized-bytes (p ∷ ps) a = omega (arith, sized-bytes ps a.2)
