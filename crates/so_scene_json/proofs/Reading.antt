-- The numbers of what is read have 64 bits where they are below zero.
use Rattle.std.proofs.Common.{◌≡◌, ℕ, zero, suc, ◌<◌, ◌≤◌, ◌^◌, List, Bool, true, false, ◌&&◌, nat_lt, nat_le, if◌then◌else◌, Option, Some, None, option_map, option_and_then, Ordering, Less, Equal, Greater, nat_cmp, refl, subst, arith}
use Rattle.std.proofs.lemmas.Bool.{and_parts, ltb-true, leb-true, lt-ltb}
use Rattle.std.specs.Prelude.{slice_index, ◌==◌, drop}
use Rattle.std.specs.Cmp.Lexicographic.{slice_cmp}
use Rattle.std.specs.Ordering.{match_ordering}
use Rattle.std.specs.Str.{is_utf8}
use Rattle.std.specs.Float.{binary64, float_is_finite}
use Rattle.fast_float.specs.Text.{minus, Parts, scan, digits_of, nearest, with_sign}
use Rattle.json.specs.Json as json
use Rattle.json.specs.Lex.{tokens}
use Rattle.serde_json.specs.Data.{Num, unsigned, negative, float, Data, null, boolean, number, string, array, object, Items, no_items, item, Members, no_members, member, put}
use Rattle.serde_json.specs.Read.{read, max_depth, of_json, of_items, of_members, number_of, number_from, float_of, is_integer}
use Rattle.so_scene.specs.Written.{IsNumber}
use Rattle.so_scene_fields.specs.Values.{◌else◌, ◌or◌}
use Rattle.so_scene_fields.specs.Numbers.{IsNum, HasNumbers, HaveNumbers, MembersHaveNumbers}
use Rattle.so_scene_json.specs.Scene.{reading}
use Rattle.so_scene_fields.proofs.Numbers.{OnSome, mapped}

finite : (b : Bool) (x : Num) → IsNum x → OnSome IsNum (if b then Some x else None)
finite true x h = h
finite false x h = tt

float_fine : (sign : Bool) (p : Parts) → OnSome IsNum (float_of sign p)
float_fine sign p = finite (float_is_finite (nearest binary64 sign p)) (float (nearest binary64 sign p)) tt

unsigned_fine : (b : Bool) (n : ℕ) (o : Option Num) → OnSome IsNum o → OnSome IsNum (if b then Some (unsigned n) else o)
unsigned_fine true n o h = tt
unsigned_fine false n o h = h

below_zero : (n : ℕ) → 0 < n → n ≤ 2 ^ 63 → IsNumber (with_sign true n)
below_zero zero l m = absurd (omega arith)
below_zero (suc n) l m = lt-ltb n (2 ^ 63) (omega arith)

negative_fine : (a b : Bool) (n : ℕ) (o : Option Num) → (a && nat_lt 0 n && nat_le n (2 ^ 63)) ≡ b → OnSome IsNum o → OnSome IsNum (if b then Some (negative (with_sign true n)) else o)
negative_fine a true n o e h =
    let all = and_parts (a && nat_lt 0 n) (nat_le n (2 ^ 63)) e in
    let some = and_parts a (nat_lt 0 n) all.0 in
    below_zero n (ltb-true 0 n some.1) (leb-true n (2 ^ 63) all.1)
negative_fine a false n o e h = h

from_fine : (sign : Bool) (p : Parts) → OnSome IsNum (number_from sign p)
from_fine true p = negative_fine (is_integer p) _ (digits_of p) (float_of true p) refl (float_fine true p)
from_fine false p = unsigned_fine (is_integer p && nat_lt (digits_of p) (2 ^ 64)) (digits_of p) (float_of false p) (float_fine false p)

signed_fine : (b : Bool) (p q : Parts) → OnSome IsNum (if b then number_from true p else number_from false q)
signed_fine true p q = from_fine true p
signed_fine false p q = from_fine false q

number_fine : (s : List ℕ) → OnSome IsNum (number_of s)
unfolding number_of
number_fine s = signed_fine (slice_index s 0 == minus) (scan (drop 1 s)) (scan s)

bound : {X Y : Type 0} (P : X → Type 0) (Q : Y → Type 0) (f : X → Option Y) (o : Option X) → ((x : X) → P x → OnSome Q (f x)) → OnSome P o → OnSome Q (option_and_then f o)
bound P Q f None h k = tt
bound P Q f (Some x) h k = h x k

ordered : (o : Ordering) (a b c : Members) → MembersHaveNumbers a → MembersHaveNumbers b → MembersHaveNumbers c → MembersHaveNumbers (match_ordering o a b c)
ordered Less a b c h k l = h
ordered Equal a b c h k l = k
ordered Greater a b c h k l = l

put_fine : (k : List ℕ) (d : Data) (ms : Members) → HasNumbers d → MembersHaveNumbers ms → MembersHaveNumbers (put k d ms)
put_fine k d no_members h m = (h, tt)
put_fine k d (member l e ms) h m = ordered (slice_cmp nat_cmp k l) (member k d (member l e ms)) (member l d ms) (member l e (put k d ms)) (h, m) (h, m.1) (m.0, put_fine k d ms h m.1)

mutual
  json_fine : (j : json.Json) → OnSome HasNumbers (of_json j)
  json_fine json.null = tt
  json_fine (json.boolean b) = tt
  json_fine (json.number s) = mapped IsNum HasNumbers number (number_of s) (λ n h. h) (number_fine s)
  json_fine (json.string s) = tt
  json_fine (json.array js) = mapped HaveNumbers HasNumbers array (of_items js) (λ ds h. h) (items_fine js)
  json_fine (json.object ms) = mapped MembersHaveNumbers HasNumbers object (of_members ms no_members) (λ m h. h) (members_fine ms no_members tt)

  items_fine : (js : json.Items) → OnSome HaveNumbers (of_items js)
  items_fine json.no_items = tt
  items_fine (json.item j js) =
      bound HasNumbers HaveNumbers (λ d. option_map (item d) (of_items js)) (of_json j) (λ d h. mapped HaveNumbers HaveNumbers (item d) (of_items js) (λ ds k. (h, k)) (items_fine js)) (json_fine j)

  members_fine : (ms : json.Members) (found : Members) → MembersHaveNumbers found → OnSome MembersHaveNumbers (of_members ms found)
  members_fine json.no_members found h = h
  members_fine (json.member k j ms) found h =
      bound HasNumbers MembersHaveNumbers (λ d. of_members ms (put k d found)) (of_json j) (λ d m. members_fine ms (put k d found) (put_fine k d found m h)) (json_fine j)

any_json : (o : Option json.Json) → OnSome HasNumbers (option_and_then of_json o)
any_json None = tt
any_json (Some j) = json_fine j

reading_if : (b : Bool) (o : Option Data) → OnSome HasNumbers o → OnSome HasNumbers (if b then o else None)
reading_if true o h = h
reading_if false o h = tt

reading_fine : (bytes : List ℕ) → OnSome HasNumbers (reading bytes)
reading_fine bytes = reading_if (is_utf8 bytes) (read bytes) (any_json (option_and_then (λ p. json.if_last p.0 p.1) (json.value max_depth (tokens bytes))))

pub read_numbers : (bytes : List ℕ) (d : Data) → reading bytes ≡ Some d → HasNumbers d
read_numbers bytes d e = subst (OnSome HasNumbers) e (reading_fine bytes)
