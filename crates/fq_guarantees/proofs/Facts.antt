-- What a well-formed record's numbers are, all together (crate fq_state has the parts).
use mathlib.Core.Path.{◌≡◌}
use mathlib.Core.Bool.{true}
use Rattle.schedule.specs.WellFormed.{well_listed}
use Rattle.fq_state.specs.State.{State, counts_of}
use Rattle.fq_state.specs.WellFormed.{flows_fit, well_formed}
use Rattle.fq_state.proofs.Facts.{CommonFits, TotalsFit, all_pass, common-fits, common-passes, passes, totals-fit, totals-pass}

pub record Facts (s : State) : Type 0 where
  pub common : CommonFits s.common
  pub flows : flows_fit s.common s.flows ≡ true
  pub totals : TotalsFit s.common s.flows
  pub listed : well_listed (counts_of s.flows) s.schedule ≡ true

pub facts : (s : State) → well_formed s ≡ true → Facts s
facts s w =
    let p = passes s w in
    record {
      common = common-fits s.common p.common;
      flows = p.flows;
      totals = totals-fit s.common s.flows p.totals;
      listed = p.lists;
    }

pub well-formed : (s : State) → Facts s → well_formed s ≡ true
well-formed s f =
    all_pass s
    (record {
      common = common-passes s.common f.common;
      flows = f.flows;
      totals = totals-pass s.common s.flows f.totals;
      lists = f.listed;
    })
