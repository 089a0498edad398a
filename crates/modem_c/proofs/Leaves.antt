-- What each entry promises of words, counts and tables is what `leaves` says.
use mathlib.Core.Path.{◌≡◌, refl}
use mathlib.Core.List.{List}
use Prim.Native.Nat.{ℕ}
use Rattle.modem_flow.specs.Arrival.{stored}
use Rattle.modem_flow.specs.declared.Settings.{Settings}
use Rattle.modem.specs.Asked.{ask, ask_arrival, ask_departure, ask_tick, start}
use Rattle.modem.specs.Calls.{arrival, departure, fresh, tick}
use Rattle.modem_words.specs.Lent.{Lent, leaves, lent}
use Rattle.modem_words.specs.Words.{state_of, state_words}

module _ (flow : ℕ) (w : List ℕ) (counts : List (List ℕ)) (handles sizes : List ℕ) where
  abbrev given : Lent
  given = lent w counts handles sizes

  pub fresh-leaves : (settings : Settings) (clock : ℕ) →
      let a = fresh counts flow settings clock in
      lent (state_words a.state) a.counts handles sizes ≡ leaves flow given (start settings clock)
  fresh-leaves settings clock = refl

  pub arrival-leaves : (clock handle size u : ℕ) →
      let s = state_of w in
      let a = arrival s counts flow handles sizes clock size u in
      lent (state_words a.state) a.counts (stored s a.answer handles handle) (stored s a.answer sizes size)
      ≡ leaves flow given (ask (ask_arrival clock handle size u))
  arrival-leaves clock handle size u = refl

  pub departure-leaves : (clock : ℕ) →
      let a = departure (state_of w) counts flow handles sizes clock in
      lent (state_words a.state) a.counts handles sizes ≡ leaves flow given (ask (ask_departure clock))
  departure-leaves clock = refl

  pub tick-leaves : (clock credits : ℕ) →
      let a = tick (state_of w) counts flow clock credits in
      lent (state_words a.state) a.counts handles sizes ≡ leaves flow given (ask (ask_tick clock credits))
  tick-leaves clock credits = refl
