-- What the front of a key says of the key's lists, for the users of the queues.
use Rattle.std.proofs.Common.{◌≡◌, ℕ, zero, suc, ◌+◌, ◌*◌, ◌<◌, ◌≤◌, List, [], ◌∷◌, false, Option, Some, None, arith, refl, sym, ◌∙◌, ap, inl, inr}
use Rattle.std.specs.Prelude.{◌⊎◌, ◌^◌}
use Rattle.std.proofs.lemmas.Bool.{cases_eq, cases_lt, cases_Bool}
use Rattle.so_ids.specs.declared.DemandId.{DemandId}
use Rattle.so_ids.specs.Ids.{is_earlier}
use Rattle.so_queue.specs.Cells.{rank}
use Rattle.so_queue.specs.Queues.{list_at, head_of, lesser, least_to, front_of_key, IsAmong}
use Rattle.so_queue.proofs.OrderLaws.{earlier-rank, rank-earlier, rank-later}
use Rattle.so_queue.proofs.QueueLaws.{least_head, head_among}

-- a key has no front exactly where its lists are empty
lesser_none : (a b : Option DemandId) → lesser a b ≡ None → (a ≡ None) × (b ≡ None)
lesser_none None b h = (refl, h)
lesser_none (Some x) None h = cc
lesser_none (Some x) (Some y) h = elim (cases_Bool (is_earlier y x)) [ inl t ↦ (let e = (rw t at h) in cc) | inr f ↦ (let e = (rw f at h) in cc) ]

no_head : (xs : List DemandId) → head_of xs ≡ None → xs ≡ []
no_head [] h = refl
no_head (x ∷ xs) h = cc

least_empty : (n i p : ℕ) (lists : List (List DemandId)) → least_to n lists i ≡ None → p < n → list_at lists (i + p) ≡ []
unfolding least_to
least_empty zero i p lists h l = absurd (omega arith)
least_empty (suc n) i p lists h l =
    let r = lesser_none (least_to n lists i) (head_of (list_at lists (i + n))) h in
    elim (cases_eq p n) [
      | inl here ↦ ap (λ x. list_at lists (i + x)) here ∙ no_head (list_at lists (i + n)) r.1
      | inr other ↦ least_empty n i p lists r.0 (omega arith)
    ]

pub front-none : (lists : List (List DemandId)) (k p : ℕ) → front_of_key lists k ≡ None → p < 8 → list_at lists (8 * k + p) ≡ []
unfolding front_of_key
front-none lists k p h l = least_empty 8 (8 * k) p lists h l

least_free : (n i : ℕ) (lists : List (List DemandId)) → ((p : ℕ) → p < n → list_at lists (i + p) ≡ []) → least_to n lists i ≡ None
unfolding least_to
least_free zero i lists f = refl
least_free (suc n) i lists f = rw (least_free n i lists (λ p l. f p (omega arith)), f n (omega arith)) refl

pub none-front : (lists : List (List DemandId)) (k : ℕ) → ((p : ℕ) → p < 8 → list_at lists (8 * k + p) ≡ []) → front_of_key lists k ≡ None
unfolding front_of_key
none-front lists k f = least_free 8 (8 * k) lists f

-- and its front is no greater than any head
lesser_le : (a b : Option DemandId) (d e : DemandId) → lesser a b ≡ Some d → (a ≡ Some e) ⊎ (b ≡ Some e) → ((x : DemandId) → (a ≡ Some x) ⊎ (b ≡ Some x) → x.k < 2 ^ 32) → rank d ≤ rank e
lesser_le None b d e h m few = elim m [ inl x ↦ cc | inr y ↦ (let same : d ≡ e = cc in let s = ap rank same in omega arith) ]
lesser_le (Some x) None d e h m few = elim m [ inl y ↦ (let same : d ≡ e = cc in let s = ap rank same in omega arith) | inr y ↦ cc ]
lesser_le (Some x) (Some y) d e h m few =
    elim (cases_Bool (is_earlier y x)) [
      | inl t ↦
          (let is = (rw t at h) in
          let same : y ≡ d = cc in
          let s = ap rank same in
          let lt = earlier-rank y x t (few y (inr refl)) in
          elim m [ inl a ↦ (let ex : x ≡ e = cc in let r = ap rank ex in omega arith) | inr b ↦ (let ey : y ≡ e = cc in let r = ap rank ey in omega arith) ])
      | inr f ↦
          (let is = (rw f at h) in
          let same : x ≡ d = cc in
          let s = ap rank same in
          let le : rank x ≤ rank y = elim (cases_lt (rank y) (rank x)) [ inl l ↦ absurd (let t = rank-earlier y x l (few x (inl refl)) in cc) | inr g ↦ g ] in
          elim m [ inl a ↦ (let ex : x ≡ e = cc in let r = ap rank ex in omega arith) | inr b ↦ (let ey : y ≡ e = cc in let r = ap rank ey in omega arith) ])
    ]

least_small : (n i : ℕ) (lists : List (List DemandId)) → ((s : ℕ) (x : DemandId) → IsAmong (list_at lists s) x → x.k < 2 ^ 32) → (x : DemandId) → (least_to n lists i ≡ Some x) ⊎ (head_of (list_at lists (i + n)) ≡ Some x) → x.k < 2 ^ 32
least_small n i lists few x m =
    elim m [
      | inl a ↦ (let r = least_head n i lists x a in few (i + r.place) x (head_among (list_at lists (i + r.place)) x r.head))
      | inr b ↦ few (i + n) x (head_among (list_at lists (i + n)) x b)
    ]

some_or_none : (o : Option DemandId) → ((x : DemandId) × (o ≡ Some x)) ⊎ (o ≡ None)
some_or_none None = inr refl
some_or_none (Some x) = inl (x, refl)

least_le : (n i p : ℕ) (lists : List (List DemandId)) (d e : DemandId) → ((s : ℕ) (x : DemandId) → IsAmong (list_at lists s) x → x.k < 2 ^ 32) → least_to n lists i ≡ Some d → p < n → head_of (list_at lists (i + p)) ≡ Some e → rank d ≤ rank e
unfolding least_to
least_le zero i p lists d e few h l m = absurd (omega arith)
least_le (suc n) i p lists d e few h l m =
    elim (cases_eq p n) [
      | inl here ↦ lesser_le (least_to n lists i) (head_of (list_at lists (i + n))) d e h (inr (ap (λ x. head_of (list_at lists (i + x))) (sym here) ∙ m)) (least_small n i lists few)
      | inr other ↦
          (let before : p < n = omega arith in
          elim (some_or_none (least_to n lists i)) [
            | inl some ↦
                (let one = least_le n i p lists some.0 e few some.1 before m in
                let two = lesser_le (least_to n lists i) (head_of (list_at lists (i + n))) d some.0 h (inl some.1) (least_small n i lists few) in
                omega arith)
            | inr none ↦ absurd (let empty = least_empty n i p lists none before in let no : ◌≡◌ {A = Option DemandId} None (Some e) = ap head_of (sym empty) ∙ m in cc)
          ])
    ]

pub front-least : (lists : List (List DemandId)) (k p : ℕ) (d e : DemandId) → ((s : ℕ) (x : DemandId) → IsAmong (list_at lists s) x → x.k < 2 ^ 32) → front_of_key lists k ≡ Some d → p < 8 → head_of (list_at lists (8 * k + p)) ≡ Some e →
    is_earlier e d ≡ false
unfolding front_of_key
front-least lists k p d e few h l m = rank-later e d (least_le 8 (8 * k) p lists d e few h l m) (few (8 * k + p) e (head_among (list_at lists (8 * k + p)) e m))
