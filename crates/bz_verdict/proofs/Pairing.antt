-- Lists of pairs as maps.
use Rattle.std.specs.Prelude.{◌≡◌, ◌+◌, ◌-◌, ◌<◌, ◌≤◌, ◌&&◌, ◌↔◌, cond, T, ℕ, Bool, true, false, List, [], ◌∷◌, length, drop, get_or, Option, Some, Result, Ok, Err, IfOk, bytes_eq}
use Rattle.std.proofs.Common.{arith, refl, sym, ap, ◌∙◌, subst}
use Rattle.std.proofs.lemmas.List.{drop_more, drop_all}
use Rattle.std.proofs.lemmas.Slice.Eq.{bytes_eq-Decides}
use Rattle.std.specs.BTreeMap.{is_at}
use Rattle.std.specs.Cmp.Lexicographic.{slice_cmp, nat_list_cmp_total, pointwise, pointwise_decides}
use Rattle.std.specs.FinMap.{entries, from_entries, find, is_sorted, get-entries, get-from_entries, get-empty, slice_cmp-IsAntisymmetric, nat_cmp-IsAntisymmetric}
use Rattle.std.specs.FinMap.Entries.{below_all, same_entries}
use Rattle.std.specs.List.{AllByRecursion}
use Rattle.std.specs.List.Sorted.{IsStrictlySortedBy}
use Rattle.std.specs.Map.{keys_of}
use Rattle.std.specs.Ordering.{nat_cmp, is_lt}
use Rattle.std.specs.declared.cmp.Ordering.{Ordering}
use Rattle.std.specs.declared.cmp.Ordering.TheVariants.{Less}
use Rattle.bz_call.specs.Map.{Map}
use Rattle.bz_check.specs.Pairs.{payload_at, Holds}
use Rattle.bz_check.proofs.Mapping.{holds_insert}
use Rattle.bz_check.proofs.Following.{both_of, both}
use Rattle.bz_verdict.specs.Images.{AreOneMap}

abbrev pub Pairs : Type 0
Pairs = List (List ℕ × List ℕ)

abbrev order : List ℕ → List ℕ → Ordering
order = slice_cmp nat_cmp

-- what stands first at a key
pub find_at : (q : List ℕ) (es : Pairs) → find order q es ≡ payload_at es q
find_at q [] = refl
find_at q (e ∷ es) = ap (λ (o : Option (List ℕ)). cond (is_at (order q) e.0) (Some e.1) o) (find_at q es)

-- keys that rise
and_so : (a b : Bool) → T a → T b → T (a && b)
and_so true b p q = q
and_so false b p q = absurd p

less_so : (o : Ordering) → o ≡ Less → T (is_lt o)
less_so o e = subst (λ (r : Ordering). T (is_lt r)) (sym e) tt

below_so : (k : List ℕ) (es : Pairs) → AllByRecursion (λ y. order k y ≡ Less) (keys_of es) → T (below_all order k es)
below_so k [] h = tt
below_so k (e ∷ es) h = and_so (is_lt (order k e.0)) (below_all order k es) (less_so (order k e.0) h.0) (below_so k es h.1)

pub sorted_so : (es : Pairs) → IsStrictlySortedBy order (keys_of es) → T (is_sorted order es)
unfolding IsStrictlySortedBy
sorted_so [] h = tt
sorted_so (e ∷ es) h = and_so (below_all order e.0 es) (is_sorted order es) (below_so e.0 es h.0) (sorted_so es h.1)

-- so two of them that are one map are one list
pub one_list : (es fs : Pairs) → IsStrictlySortedBy order (keys_of es) → IsStrictlySortedBy order (keys_of fs) → AreOneMap es fs → es ≡ fs
one_list es fs one other same = same_entries order nat_list_cmp_total (slice_cmp-IsAntisymmetric nat_cmp-IsAntisymmetric) es fs (sorted_so es one) (sorted_so fs other) (λ q. find_at q es ∙ same q ∙ sym (find_at q fs))

pub one_map : (es fs : Pairs) → es ≡ fs → AreOneMap es fs
one_map es fs e = λ key. ap (λ (all : Pairs). payload_at all key) e

-- the test of two lists
abbrev pub same_pair : List ℕ × List ℕ → List ℕ × List ℕ → Bool
same_pair p q = bytes_eq p.0 q.0 && bytes_eq p.1 q.1

pub pair_of : (p q : List ℕ × List ℕ) → same_pair p q ≡ true → p ≡ q
pair_of p q h =
    let two = both_of (bytes_eq p.0 q.0) (bytes_eq p.1 q.1) h in
    let keys : p.0 ≡ q.0 = (bytes_eq-Decides p.0 q.0).0 two.0 in
    let payloads : p.1 ≡ q.1 = (bytes_eq-Decides p.1 q.1).0 two.1 in
    λ i. (keys i, payloads i)

pub pair_test : (p q : List ℕ × List ℕ) → p ≡ q → same_pair p q ≡ true
pair_test p q e = both (bytes_eq p.0 q.0) (bytes_eq p.1 q.1) ((bytes_eq-Decides p.0 q.0).1 (ap (λ (x : List ℕ × List ℕ). x.0) e)) ((bytes_eq-Decides p.1 q.1).1 (ap (λ (x : List ℕ × List ℕ). x.1) e))

pub lists_decide : (es fs : Pairs) → pointwise same_pair es fs ≡ true ↔ es ≡ fs
lists_decide es fs = pointwise_decides (λ p q. (pair_of p q, pair_test p q)) es fs

-- whether two maps are one, by the test and by the counts
pub same_decides : (es fs : Pairs) (b : Bool) → IsStrictlySortedBy order (keys_of es) → IsStrictlySortedBy order (keys_of fs) → b ≡ pointwise same_pair es fs → b ≡ true ↔ AreOneMap es fs
same_decides es fs b one other is = (λ h. one_map es fs ((lists_decide es fs).0 (sym is ∙ h)), λ same. is ∙ (lists_decide es fs).1 (one_list es fs one other same))

pub other_counts : (es fs : Pairs) → IsStrictlySortedBy order (keys_of es) → IsStrictlySortedBy order (keys_of fs) → (length es ≡ length fs → ⊥) → AreOneMap es fs → ⊥
other_counts es fs one other ne same = ne (ap (λ (all : Pairs). length all) (one_list es fs one other same))

-- a map of pairs, the last ones first
pub holds_none : (pairs : Pairs) (n : ℕ) → length pairs ≤ n → Holds (from_entries (drop n pairs)) []
holds_none pairs n le = subst (λ (all : Pairs). Holds (from_entries all) []) (sym (drop_all n pairs le)) (λ key. get-empty order key)

pub holds_one_more : (pairs old new : Pairs) (i : ℕ) (e : List ℕ × List ℕ) → i < length pairs → e ≡ get_or pairs (length pairs - 1 - i) e → Holds (from_entries (drop (length pairs - i) pairs)) old
    → ((q : List ℕ) → payload_at new q ≡ cond (is_at (slice_cmp nat_cmp e.0) q) (Some e.1) (payload_at old q)) → Holds (from_entries (drop (length pairs - (i + 1)) pairs)) new
holds_one_more pairs old new i e lt is h updates =
    let k : length pairs - 1 - i ≡ length pairs - (i + 1) = omega arith in
    let next : length pairs - (i + 1) + 1 ≡ length pairs - i = omega arith in
    let there : get_or pairs (length pairs - (i + 1)) e ≡ e = ap (λ (n : ℕ). get_or pairs n e) (sym k) ∙ sym is in
    let more : drop (length pairs - (i + 1)) pairs ≡ e ∷ drop (length pairs - i) pairs = drop_more pairs (length pairs - (i + 1)) e (omega arith) ∙ ap (λ (x : List ℕ × List ℕ). x ∷ drop (length pairs - (i + 1) + 1) pairs) there
    ∙ ap (λ (n : ℕ). e ∷ drop n pairs) next in
    subst (λ (all : Pairs). Holds (from_entries all) new) (sym more) (holds_insert (from_entries (drop (length pairs - i) pairs)) old new e.0 e.1 h updates)

-- the entries of a map hold it
pub holds_entries : (map : Map) (es pairs : Pairs) → es ≡ entries map → Holds (from_entries es) pairs → Holds map pairs
holds_entries map es pairs is h = λ key. get-entries map key ∙ ap (λ (all : Pairs). find order key all) (sym is) ∙ sym (get-from_entries nat_list_cmp_total es key) ∙ h key

pub if_ok : {A E : Type 0} (r : Result A E) (P Q : A → Type 0) → ((x : A) → P x → Q x) → IfOk r P → IfOk r Q
if_ok (Ok x) P Q goes h = goes x h
if_ok (Err e) P Q goes h = tt
