-- A piece more, and one in which the writing failed.
use Rattle.std.proofs.Common.{◌≡◌, ℕ, ◌+◌, ◌-◌, ◌*◌, ◌<◌, ◌≤◌, List, [], ◌++◌, length, take, drop, Option, arith, refl, sym, ◌∙◌, ap, subst, append_assoc, length-append}
use Rattle.std.proofs.Math.Seq.{take-add, take-append_seam, drop-append_seam}
use Rattle.std.proofs.lemmas.List.{take_all, take-append-le, take-append-drop, length-take, length-drop, append-nil}
use Rattle.std.specs.Io.KnownBytes.{Appends}
use Rattle.so_io.specs.Sink.{AppendsPart}
use Rattle.so_io.proofs.Pieces.{Appends-more}
use Rattle.so_printer.specs.Printing.{PrinterView, IsGoing, IsCut, IsWhole}

-- what is left of a list after a front, as it is cut out
rest_of : (xs : List ℕ) (n : ℕ) → take (length xs - n) (drop n xs) ≡ drop n xs
rest_of xs n = take_all (length xs - n) (drop n xs) (omega (arith, length-drop n xs))

module _ (first a b : Option (List ℕ)) (p : PrinterView) (m : ℕ) (text line front rest piece : List ℕ) (going : IsGoing first a p text) (is : piece ≡ p.held ++ front) (split : line ≡ front ++ rest) (full : length piece ≡ 4096) (more : m ≡ p.pieces + 1) where
  joined : text ++ line ≡ (going.handed ++ piece) ++ rest
  joined = rw (going.parts, is, split) (simp append_assoc refl)

  long : length (going.handed ++ piece) ≡ 4096 * p.pieces + 4096
  long = omega (arith, length-append going.handed piece, going.whole, full)

  pub one_more : (p2 : PrinterView) → p2.pieces ≡ m → Appends a b piece → p2.held ≡ rest → length rest < 4096 → IsGoing first b p2 (text ++ line)
  one_more p2 same appends held few = record {
    handed = going.handed ++ piece;
    parts = joined ∙ ap (λ (l : List ℕ). (going.handed ++ piece) ++ l) (sym held);
    whole = omega (arith, long, more, same);
    few = rw held few;
    printed = Appends-more first a b going.handed piece going.printed appends;
  }

  taken : (n : ℕ) → n ≤ length piece → take (length going.handed + n) (text ++ line) ≡ going.handed ++ take n piece
  taken n fits =
      ap (λ (l : List ℕ). take (length going.handed + n) l) (joined ∙ append_assoc going.handed piece rest)
      ∙ (take-add (length going.handed) n (going.handed ++ (piece ++ rest))
      ∙ rw (take-append_seam going.handed (piece ++ rest), drop-append_seam going.handed (piece ++ rest), take-append-le n piece rest fits) refl)

  pub cut : AppendsPart a b piece → IsCut first b m (text ++ line)
  cut part =
      let size : length (text ++ line) ≡ length (going.handed ++ piece) + length rest = ap length joined ∙ length-append (going.handed ++ piece) rest in
      record {
        count = length going.handed + part.0;
        before = omega (arith, going.whole, more);
        not_whole = omega (arith, going.whole, more, part.1, full);
        not_all = omega (arith, size, long, going.whole, part.1, full);
        printed = subst (Appends first b) (sym (taken part.0 (omega (arith, part.1)))) (Appends-more first a b going.handed (take part.0 piece) going.printed part.2);
      }

-- the front of a line that fills the piece, and what is left of it
pub split_line : (n : ℕ) (line : List ℕ) → line ≡ take n line ++ take (length line - n) (drop n line)
split_line n line = sym (ap (λ (l : List ℕ). take n line ++ l) (rest_of line n) ∙ take-append-drop n line)

pub fills : (held line : List ℕ) (n : ℕ) → length held ≤ 4096 → n ≡ 4096 - length held → n ≤ length line → length (held ++ take n line) ≡ 4096
fills held line n fits is long = omega (arith, length-append held (take n line), length-take n line, fits, is, long)

pub rest_short : (n : ℕ) (line : List ℕ) → length line ≤ 512 → length (take (length line - n) (drop n line)) < 4096
rest_short n line short = omega (arith, ap length (rest_of line n), length-drop n line, short)

-- the last piece
module _ (first a b : Option (List ℕ)) (p : PrinterView) (pieces : ℕ) (text piece : List ℕ) (going : IsGoing first a p text) (is : piece ≡ p.held) (more : pieces ≡ p.pieces + 1) where
  last_long : length text ≡ 4096 * p.pieces + length p.held
  last_long = omega (arith, ap length going.parts, length-append going.handed p.held, going.whole)

  pub last_cut : AppendsPart a b piece → IsCut first b pieces text
  last_cut part =
      let short : part.0 < length p.held = omega (arith, part.1, ap length is) in
      record {
        count = length going.handed + part.0;
        before = omega (arith, going.whole, more);
        not_whole = omega (arith, going.whole, more, short, going.few);
        not_all = omega (arith, last_long, going.whole, short);
        printed = subst (Appends first b)
            (sym (ap (λ (l : List ℕ). take (length going.handed + part.0) l) (going.parts ∙ ap (λ (l : List ℕ). going.handed ++ l) (sym is)) ∙ (take-add (length going.handed) part.0 (going.handed ++ piece) ∙ rw (take-append_seam going.handed piece, drop-append_seam going.handed piece) refl)))
            (Appends-more first a b going.handed (take part.0 piece) going.printed part.2);
      }
