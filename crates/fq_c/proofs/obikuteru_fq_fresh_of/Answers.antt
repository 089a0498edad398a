-- `obikuteru_fq_fresh_of`: the number, and the words of the record also where it is refused.
use mathlib.Core.Path.{◌≡◌, ap, ◌∙◌}
use Rattle.std.proofs.Common.{rules}
use Rattle.refusals.specs.Codes.{code_in}
use Rattle.refusals.specs.Numbers.{refusal_in}
use Rattle.fq_words.specs.Codes.{fresh_code}
use Rattle.fq_words.proofs.Returned.{parts}
use Rattle.fq_c.proofs.obikuteru_fq_fresh_of.Goals as goal

pub returns : goal.returns
returns c =
    let p = parts _ _ _ _ _ _ c.fresh-made.array_long3 c.fresh-made.ensures.1 in
    let number : code_in c.map.result ≡ fresh_code (refusal_in c.fresh-made.result.accepted) = search rules in (
      c.code.ensures ∙ number ∙ ap fresh_code c.fresh-made.ensures.0,
      c.encode.ensures ∙ p.words,
      p.order_is,
      p.flows-are,
      p.deficits-are,
    )
