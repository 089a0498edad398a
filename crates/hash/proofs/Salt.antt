-- 2^32 is a multiple of 64, so that the wrapping sum's flow is the sum's.
use Rattle.std.proofs.Common.{◌≡◌, ℕ, ◌+◌, ◌%◌, ◌<◌, sym, ap, ◌∙◌, arith}
use Rattle.hash.specs.OneAtATime.{flow_of, one_at_a_time}
use Rattle.hash.specs.Salt.{SharedAtEverySalt}

wraps : (n : ℕ) → n % 4294967296 % 64 ≡ n % 64
wraps n = omega arith

by_parts : (a s : ℕ) → (a + s) % 64 ≡ (a % 64 + s % 64) % 64
by_parts a s = omega arith

-- of numbers below 64
alike : (a b s t : ℕ) → a < 64 → b < 64 → s < 64 → (a + s) % 64 ≡ (b + s) % 64 → (a + t) % 64 ≡ (b + t) % 64
alike a b s t ha hb hs e = ap (λ n. (n + t) % 64) (same)
  where
    same : a ≡ b
    same = omega (arith, ha, hb, hs, e)

below : (n : ℕ) → n % 64 < 64
below n = omega arith

moves-alike : (a b s t : ℕ) → (a + s) % 4294967296 % 64 ≡ (b + s) % 4294967296 % 64 → (a + t) % 4294967296 % 64 ≡ (b + t) % 4294967296 % 64
moves-alike a b s t e =
    let f = sym (by_parts a s) ∙ sym (wraps (a + s)) ∙ e ∙ wraps (b + s) ∙ by_parts b s in
    let g = alike (a % 64) (b % 64) (s % 64) (t % 64) (below a) (below b) (below s) f in
    wraps (a + t) ∙ by_parts a t ∙ g ∙ sym (by_parts b t) ∙ sym (wraps (b + t))

pub shared-at-every-salt : SharedAtEverySalt
unfolding flow_of
shared-at-every-salt key other salt any e = moves-alike (one_at_a_time key) (one_at_a_time other) salt any e
