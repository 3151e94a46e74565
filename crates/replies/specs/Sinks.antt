-- What a sink that is written to promises.
use Rattle.std.specs.Prelude.{◌≡◌, ℕ, List, ◌++◌, Option, IfSome, IsSomeAnd}

-- what sinks of the type K hold: the bytes, and none where some were lost
module _ {K : Type 0} (held : K → Option (List ℕ)) where
  -- the sink a was given the bytes, and is then the sink b: unless b has lost some, a had lost none, and b holds them behind what a held
  abbrev pub Given : K → K → List ℕ → Type 0
  Given a b bytes = IfSome (held b) (λ after. IsSomeAnd (held a) (λ before. after ≡ before ++ bytes))
