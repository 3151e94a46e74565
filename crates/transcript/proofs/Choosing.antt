-- The engine that a first line chooses.
use Rattle.std.proofs.Common.{ℕ, pos, Ok, Err, inl, inr}
use Rattle.refusals.specs.Rows.{Uppermost, Unfit}
use Rattle.refusals.specs.declared.Refusal.{Refusal}
use Rattle.rules.specs.Views.{Setting}
use Rattle.residue.specs.Made.{Made}
use Rattle.residue.specs.declared.ResidueEngine.{ResidueEngine}
use Rattle.transcript.specs.Engines.{engine_rows}

module _ (k : Setting) (m r g : ℕ) where
  -- an engine that is made is one that no row refuses
  pub made_fits : (e : ResidueEngine) → Made k.ring.t k.ring.n (pos m) (pos r) (pos g) (Ok e) → Unfit (engine_rows k m r g)
  made_fits e x = ((λ n. n x.0), ((λ n. n x.1), tt))

  -- and a refusal is the uppermost row's
  pub refused_by : (e : Refusal) → Made k.ring.t k.ring.n (pos m) (pos r) (pos g) (Err e) → Uppermost (engine_rows k m r g) e
  refused_by e x = elim x [ inl y ↦ inl (y.1, y.0) | inr y ↦ inr ((λ n. n y.1), inl (y.2, y.0)) ]
