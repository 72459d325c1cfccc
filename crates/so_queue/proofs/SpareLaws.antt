-- One cell more.
use Rattle.std.proofs.Common.{◌≡◌, ℕ, zero, suc, ◌+◌, ◌<◌, List, [], ◌∷◌, ◌++◌, length, map, get_or, arith, refl, sym, ◌∙◌, ap, subst}
use Rattle.std.proofs.lemmas.List.{length_push}
use Rattle.so_queue.specs.declared.cells.Cell.{Cell}
use Rattle.so_queue.specs.declared.cells.Queue.{Queue}
use Rattle.so_ids.specs.declared.DemandId.{DemandId}
use Rattle.so_queue.specs.Cells.{rank, nobody, cell_at, queue_at, walk, list_of, lists_of, IsRun, IsFree, IsCells}

kept_at : (cells : List Cell) (x : Cell) (i : ℕ) → i < length cells → cell_at (cells ++ x ∷ []) i ≡ cell_at cells i
kept_at [] x i l = absurd (omega (arith, l))
kept_at (c ∷ cells) x zero l = refl
kept_at (c ∷ cells) x (suc i) l = kept_at cells x i (omega (arith, l))

last_at : (cells : List Cell) (x : Cell) → cell_at (cells ++ x ∷ []) (length cells) ≡ x
last_at [] x = refl
last_at (c ∷ cells) x = last_at cells x

run_longer : (cells : List Cell) (x : Cell) (s n i last low : ℕ) → IsRun cells s n i last low → IsRun (cells ++ x ∷ []) s n i last low
run_longer cells x s zero i last low r = tt
run_longer cells x s (suc n) i last low r =
    let step = r.0 in
    let same = kept_at cells x i step.within in
    let rest = run_longer cells x s n (cell_at cells i).next last (rank (cell_at cells i).demand + 1) r.1 in
    let P : Cell → Type 0 = λ c. IsRun (cells ++ x ∷ []) s n c.next last (rank c.demand + 1) in
    (record { within = (let l = length_push cells x in omega (arith, step.within, l)); owner = rw same step.owner; rank = rw same step.rank; end = step.end }, subst P (sym same) rest)

walk_longer : (cells : List Cell) (x : Cell) (s n i last low : ℕ) → IsRun cells s n i last low → walk n (cells ++ x ∷ []) i ≡ walk n cells i
walk_longer cells x s zero i last low r = refl
walk_longer cells x s (suc n) i last low r =
    let same = kept_at cells x i r.0.within in
    let rest = walk_longer cells x s n (cell_at cells i).next last (rank (cell_at cells i).demand + 1) r.1 in
    ap (λ (c : Cell). c.demand ∷ walk n (cells ++ x ∷ []) c.next) same ∙ ap (λ ds. (cell_at cells i).demand ∷ ds) rest

-- the cell that was made is free
pub made_spare : (cells : List Cell) (free : List ℕ) (x : Cell) (queues : List Queue) → x.owner ≡ nobody → x.next ≡ 0 → length free ≡ 0 → IsCells cells free queues → IsCells (cells ++ x ∷ []) (free ++ length cells ∷ []) queues
made_spare cells (f ∷ free) x queues o n e k = absurd (omega (arith, e))
made_spare cells [] x queues o n e k = record {
  few = k.few;
  rest = record {
    within = only (λ i. get_or (length cells ∷ []) i 0 < length (cells ++ x ∷ [])) (let l = length_push cells x in omega (arith, l));
    owner = only (λ i. (cell_at (cells ++ x ∷ []) (get_or (length cells ∷ []) i 0)).owner ≡ nobody) (ap (λ (c : Cell). c.owner) (last_at cells x) ∙ o);
    place = only (λ i. (cell_at (cells ++ x ∷ []) (get_or (length cells ∷ []) i 0)).next ≡ i) (ap (λ (c : Cell). c.next) (last_at cells x) ∙ n);
  };
  count = (let l = length_push cells x in let c = k.count in omega (arith, l, c));
  runs = λ s l. run_longer cells x s _ _ _ 0 (k.runs s l);
}
  where
    only : (P : ℕ → Type 0) → P 0 → (i : ℕ) → i < 1 → P i
    only P p zero l = p
    only P p (suc i) l = absurd (omega (arith, l))

lists_by : (f g : Queue → List DemandId) (queues : List Queue) → ((s : ℕ) → s < length queues → f (queue_at queues s) ≡ g (queue_at queues s)) → map f queues ≡ map g queues
lists_by f g [] h = refl
lists_by f g (q ∷ queues) h = rw (h 0 (omega arith), lists_by f g queues (λ s l. h (suc s) (omega (arith, l)))) refl

pub same_lists : (cells : List Cell) (free : List ℕ) (x : Cell) (queues : List Queue) → IsCells cells free queues → lists_of (cells ++ x ∷ []) queues ≡ lists_of cells queues
same_lists cells free x queues k = lists_by (list_of (cells ++ x ∷ [])) (list_of cells) queues (λ s l. walk_longer cells x s _ _ _ 0 (k.runs s l))

-- no cell is free where none is made
pub none_made : IsFree [] []
none_made = record { within = λ i m. absurd (omega (arith, m)); owner = λ i m. absurd (omega (arith, m)); place = λ i m. absurd (omega (arith, m)) }
