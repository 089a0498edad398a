-- A kind of state and call: what each call answers, and the state that it returns.
pub record Kind : Type 1 where
  pub State : Type 0
  -- a call with all that it is given, but for the state
  pub Call : Type 0
  pub Answer : Type 0
  pub answer : State → Call → Answer
  pub next : State → Call → State
