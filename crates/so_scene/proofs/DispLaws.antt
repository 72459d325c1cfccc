-- The dispatcher `default` is one that a scene may have.
use Rattle.std.proofs.Common.{replicate, arith, refl}
use Rattle.std.proofs.lemmas.List.Elements.{All-from_recursion}
use Rattle.so_scene.specs.Checked.{IsQuote, IsDisp}
use Rattle.so_scene.specs.Parts.{default_disp}

twenty : IsQuote 20
twenty = (omega arith, omega arith)

pub default_is_disp : IsDisp default_disp
default_is_disp = record {
  named = refl;
  some_slots = omega arith;
  few_slots = omega arith;
  some_threads = omega arith;
  few_threads = omega arith;
  no_pool = λ e. (refl, refl);
  eight = refl;
  quotes = All-from_recursion IsQuote (replicate 8 20) (twenty, (twenty, (twenty, (twenty, (twenty, (twenty, (twenty, (twenty, tt))))))));
  no_quotes = λ e. refl;
}
