-- The salt moves every key alike: two keys that share a flow at one salt share one at every salt. It keeps nobody from sharing another
-- sender's flow; that depends on the keys alone.
use Rattle.std.specs.Prelude.{◌≡◌, ℕ, List}
use Rattle.hash.specs.OneAtATime.{flow_of}

abbrev pub SharedAtEverySalt : Type 0
SharedAtEverySalt = (key other : List ℕ) (salt any : ℕ) → flow_of key salt ≡ flow_of other salt → flow_of key any ≡ flow_of other any
