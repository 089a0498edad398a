-- The digits of a number are those that std writes for it.
use Rattle.std.proofs.Common.{◌≡◌, ◌∙◌, ℕ, ◌≤◌, ◌<◌, ◌^◌, [], length, rules, append-nil}
use Rattle.std.specs.Fmt.{decimal}
use Rattle.std.proofs.lemmas.Fmt.{PrependsLastDigit, decimal_from_prepends, length-decimal-le}
use Rattle.decimal.specs.Digits.{digits_of, spelled}

prepends : PrependsLastDigit spelled
unfolding spelled
prepends = search rules

pub digits-decimal : (n : ℕ) → n < 2 ^ 64 → digits_of n ≡ decimal n
unfolding digits_of
digits-decimal n h = decimal_from_prepends spelled prepends 20 n [] h (search (rules, length-decimal-le 20)) ∙ append-nil (decimal n)
