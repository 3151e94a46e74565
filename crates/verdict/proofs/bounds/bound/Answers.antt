use Rattle.std.proofs.Common.{◌≡◌, ℕ, ◌-◌, ◌*◌, ◌/◌, ◌≤◌, sym, subst, arith}
use Rattle.verdict.proofs.Sizes.{divided, div_small}
use Rattle.verdict.proofs.bounds.bound.Goals as goal

pub returns : goal.returns
returns g c =
    let D = c.largest.result in
    let m = c.modulus.ensures in
    let K = 2 * c.modulus.result - 3 in
    let is : c.norm_limit.result ≡ 6 * D / K = c.norm_limit.ensures in
    record {
      small = omega (arith, is, div_small (6 * D) K, c.largest.ensures.small);
      reaches = (D, c.largest.ensures.most, λ n h. subst (λ (k : ℕ). n ≤ k) (sym is) (divided D K n (omega (arith, m.some)) (subst (λ (k : ℕ). n * (2 * k - 3) ≤ 6 * D) (sym m.is) h)));
    }
