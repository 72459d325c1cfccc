use Rattle.std.proofs.Common.{◌≡◌, ◌≤◌, drop}
use Rattle.so_code.specs.Bodies.{body_from}
use Rattle.so_code.proofs.bodies.body_at.Given as goal

abbrev pub invariant-loop-place : goal.invariant-loop-place
invariant-loop-place l =
    (l.start ≤ l.place) × (body_from l.body 0 0 l.code ≡ body_from l.body l.start l.place (drop l.place l.code))
