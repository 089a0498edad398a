-- The tests of a record, as the code joins them and as the table lists them.
use mathlib.Core.Path.{◌≡◌, refl}
use mathlib.Core.Bool.{Bool, true, false, cond, ◌&&◌, ◌||◌}

and-false : (t : Bool) → t && false ≡ false
and-false true = refl
and-false false = refl

-- of an arrival
an-arrival : (e1 e0 unused h0 clock s1 s2 s0 u0 v4 bytes prob : Bool) →
    (e1 && s1 && s2 && v4 || (e0 && h0 && s0 && u0 && false)) && unused && clock && bytes && prob
    ≡ e1 && unused && true && clock && (s1 && s2) && true && v4 && bytes && prob
an-arrival false e0 unused h0 clock s1 s2 s0 u0 v4 bytes prob = simp and-false
an-arrival true e0 unused h0 clock false s2 s0 u0 v4 bytes prob = simp and-false
an-arrival true e0 unused h0 clock true false s0 u0 v4 bytes prob = simp and-false
an-arrival true e0 unused h0 clock true true s0 u0 false bytes prob = simp and-false
an-arrival true e0 false h0 clock true true s0 u0 true bytes prob = refl
an-arrival true e0 true h0 false true true s0 u0 true bytes prob = refl
an-arrival true e0 true h0 true true true s0 u0 true false prob = refl
an-arrival true e0 true h0 true true true s0 u0 true true false = refl
an-arrival true e0 true h0 true true true s0 u0 true true true = refl

-- of a departure
a-departure : (e0 unused h0 clock s0 u0 bytes prob : Bool) →
    e0 && h0 && s0 && u0 && true && unused && clock && bytes && prob
    ≡ e0 && unused && h0 && clock && s0 && u0 && true && bytes && prob
a-departure false unused h0 clock s0 u0 bytes prob = refl
a-departure true unused false clock s0 u0 bytes prob = simp and-false
a-departure true unused true clock false u0 bytes prob = simp and-false
a-departure true unused true clock true false bytes prob = simp and-false
a-departure true false true clock true true bytes prob = refl
a-departure true true true false true true bytes prob = refl
a-departure true true true true true true false prob = refl
a-departure true true true true true true true false = refl
a-departure true true true true true true true true = refl

-- of a tick
a-tick : (e0 unused h0 clock s0 u0 v0 bytes prob : Bool) →
    e0 && h0 && s0 && u0 && v0 && unused && clock && bytes && prob
    ≡ e0 && unused && h0 && clock && s0 && u0 && v0 && bytes && prob
a-tick false unused h0 clock s0 u0 v0 bytes prob = refl
a-tick true unused false clock s0 u0 v0 bytes prob = simp and-false
a-tick true unused true clock false u0 v0 bytes prob = simp and-false
a-tick true unused true clock true false v0 bytes prob = simp and-false
a-tick true unused true clock true true false bytes prob = simp and-false
a-tick true false true clock true true true bytes prob = refl
a-tick true true true false true true true bytes prob = refl
a-tick true true true true true true true false prob = refl
a-tick true true true true true true true true false = refl
a-tick true true true true true true true true true = refl

-- of no kind
no_kind : (e0 unused h0 clock s0 u0 bytes prob : Bool) →
    e0 && h0 && s0 && u0 && false && unused && clock && bytes && prob
    ≡ false
no_kind e0 unused h0 clock s0 u0 bytes prob = simp and-false

pub joined : (a d t e1 e0 unused h0 clock s1 s2 s0 u0 v4 v0 bytes prob : Bool) → (a ≡ true → d ≡ false) → (a ≡ true → t ≡ false) →
    ((a && e1 && s1 && s2 && v4) || (e0 && h0 && s0 && u0 && (d || (t && v0)))) && unused && clock && bytes && prob
    ≡ (a || d || t) && cond a e1 e0 && unused && cond a true h0 && clock && cond a (s1 && s2) s0 && cond a true u0
    && cond (a || d) (d || v4) v0 && bytes && prob
joined true d t e1 e0 unused h0 clock s1 s2 s0 u0 v4 v0 bytes prob p q = rw (p refl, q refl) (an-arrival e1 e0 unused h0 clock s1 s2 s0 u0 v4 bytes prob)
joined false true t e1 e0 unused h0 clock s1 s2 s0 u0 v4 v0 bytes prob p q = a-departure e0 unused h0 clock s0 u0 bytes prob
joined false false true e1 e0 unused h0 clock s1 s2 s0 u0 v4 v0 bytes prob p q = a-tick e0 unused h0 clock s0 u0 v0 bytes prob
joined false false false e1 e0 unused h0 clock s1 s2 s0 u0 v4 v0 bytes prob p q = no_kind e0 unused h0 clock s0 u0 bytes prob
