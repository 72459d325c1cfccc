-- A count that rose in a part of a call rose in the whole call.
use Rattle.std.proofs.Common.{ℕ, ◌≤◌, inl, inr, ⊎_elim, arith}
use Rattle.so_io.specs.Count.{Rose}

pub Rose-within : (first before now last : ℕ) → first ≤ before → Rose before now → now ≤ last → Rose first last
Rose-within first before now last early rose late = ⊎_elim (λ more. inl (omega (arith, more))) (λ stands. inr (omega (arith, stands))) rose
