-- The pairs that a page shows, beside those of a map in the page's range.
use Rattle.std.specs.Prelude.{◌≡◌, ◌+◌, ◌<◌, ◌≤◌, ◌&&◌, ◌↔◌, not, nat_le, cond, ℕ, Bool, true, false, List, [], ◌∷◌, length, filter, drop, get_or, Option, Some, None, bytes_eq}
use Rattle.std.proofs.Common.{arith, refl, sym, ap, ◌∙◌, subst, inl, inr}
use Rattle.std.proofs.lemmas.Bool.{cases_lt}
use Rattle.std.proofs.lemmas.Bool.Decides.{nat_tests}
use Rattle.std.proofs.lemmas.List.{drop_more, drop_all}
use Rattle.std.proofs.lemmas.Slice.Eq.{bytes_eq-Decides}
use Rattle.std.specs.BTreeMap.Range.{range_contains, entries_between}
use Rattle.std.specs.Cmp.Lexicographic.{slice_cmp, nat_list_cmp_total}
use Rattle.std.specs.FinMap.{entries, entries_sorted, get-entries, slice_cmp-IsAntisymmetric, nat_cmp-IsAntisymmetric}
use Rattle.std.specs.FinMap.Entries.{same_entries}
use Rattle.std.specs.List.Sorted.{IsStrictlySortedBy}
use Rattle.std.specs.Map.{keys_of}
use Rattle.std.specs.Ordering.{nat_cmp, is_lt, is_le, is_ge, is_gt, ordering_reverse}
use Rattle.std.specs.declared.cmp.Ordering.{Ordering}
use Rattle.std.specs.declared.cmp.Ordering.TheVariants.{Less, Equal, Greater}
use Rattle.std.specs.declared.ops.Bound.TheVariants.{Included, Excluded, Unbounded}
use Rattle.bz_call.specs.Map.{Map}
use Rattle.bz_content.specs.Content.{leaf_end_in}
use Rattle.bz_layout.specs.declared.config.Config.{Config}
use Rattle.bz_sound.specs.Memory.Replies.{is_within, pairs_within}
use Rattle.bz_check.specs.Pairs.{Holds}
use Rattle.bz_check.proofs.Following.{false_true, none_some, some_same}
use Rattle.bz_verdict.specs.Pages.{kept_within, same_end, ShowsPage}
use Rattle.bz_verdict.proofs.Pairing.{Pairs, find_at, sorted_so, pair_of, pair_test}

abbrev order : List ℕ → List ℕ → Ordering
order = slice_cmp nat_cmp

-- a list is another one exactly where what is left of it is what is left of that
abbrev pub LeftAlike : Pairs → Pairs → ℕ → Pairs → Type 0
LeftAlike shown all i left = shown ≡ all ↔ drop i shown ≡ left

abbrev Cell : Type 0
Cell = List ℕ × List ℕ

head_same : (x y : Cell) (xs ys : Pairs) → x ∷ xs ≡ y ∷ ys → x ≡ y
head_same x y xs ys e = cc

tail_same : (x y : Cell) (xs ys : Pairs) → x ∷ xs ≡ y ∷ ys → xs ≡ ys
tail_same x y xs ys e = cc

both_same : (x y : Cell) (xs ys : Pairs) → x ≡ y → xs ≡ ys → x ∷ xs ≡ y ∷ ys
both_same x y xs ys e f = ap (λ (z : Cell). z ∷ xs) e ∙ ap (λ (zs : Pairs). y ∷ zs) f

none_more : (y : Cell) (ys : Pairs) → [] ≡ y ∷ ys → ⊥
none_more y ys e = absurd (cc)

pub left_first : (shown all left : Pairs) → left ≡ all → LeftAlike shown all 0 left
left_first shown all left is = (λ e. e ∙ sym is, λ e. e ∙ is)

-- the next one, with the pair that stands there
one_on : (shown : Pairs) (i : ℕ) (here : Cell) → i < length shown → here ≡ get_or shown i here → drop i shown ≡ here ∷ drop (i + 1) shown
one_on shown i here lt is = drop_more shown i here lt ∙ ap (λ (x : Cell). x ∷ drop (i + 1) shown) (sym is)

pub left_more : (shown all left rest : Pairs) (i : ℕ) (here next : Cell) → i < length shown → here ≡ get_or shown i here → left ≡ next ∷ rest → here ≡ next → LeftAlike shown all i left → LeftAlike shown all (i + 1) rest
left_more shown all left rest i here next lt is came same alike = (
  λ e. tail_same here next (drop (i + 1) shown) rest (sym (one_on shown i here lt is) ∙ alike.0 e ∙ came),
  λ e. alike.1 (one_on shown i here lt is ∙ both_same here next (drop (i + 1) shown) rest same e ∙ sym came),
)

pub left_other : (shown all left rest : Pairs) (i : ℕ) (here next : Cell) → i < length shown → here ≡ get_or shown i here → left ≡ next ∷ rest → (here ≡ next → ⊥) → LeftAlike shown all i left → shown ≡ all → ⊥
left_other shown all left rest i here next lt is came other alike e = other (head_same here next (drop (i + 1) shown) rest (sym (one_on shown i here lt is) ∙ alike.0 e ∙ came))

pub left_over : (shown all left rest : Pairs) (i : ℕ) (next : Cell) → length shown ≤ i → left ≡ next ∷ rest → LeftAlike shown all i left → shown ≡ all → ⊥
left_over shown all left rest i next le came alike e = none_more next rest (sym (drop_all i shown le) ∙ alike.0 e ∙ came)

some_left : (shown : Pairs) (i : ℕ) → drop i shown ≡ [] → i < length shown → ⊥
some_left [] i e lt = absurd (omega arith)
some_left (x ∷ shown) i e lt = none_more (get_or (x ∷ shown) i x) (drop (i + 1) (x ∷ shown)) (sym e ∙ drop_more (x ∷ shown) i x lt)

left_none : (shown all left : Pairs) (i : ℕ) → left ≡ [] → LeftAlike shown all i left → length shown ≤ i → shown ≡ all
left_none shown all left i none alike le = alike.1 (drop_all i shown le ∙ sym none)

left_short : (shown all left : Pairs) (i : ℕ) → left ≡ [] → LeftAlike shown all i left → i < length shown → shown ≡ all → ⊥
left_short shown all left i none alike lt e = some_left shown i (alike.0 e ∙ none) lt

-- a pair by its test
pub pair_so : (p : Cell) (key payload : List ℕ) (test : Bool) → test ≡ (bytes_eq p.0 key && bytes_eq p.1 payload) → test ≡ true → p ≡ (key, payload)
pair_so p key payload test is yes_ = pair_of p (key, payload) (sym is ∙ yes_)

pub pair_not : (p : Cell) (key payload : List ℕ) (test : Bool) → test ≡ (bytes_eq p.0 key && bytes_eq p.1 payload) → test ≡ false → p ≡ (key, payload) → ⊥
pair_not p key payload test is no_ e = false_true (sym no_ ∙ is ∙ pair_test p (key, payload) e)

-- ends of leaves
end_of : (one other : Option (List ℕ)) → same_end one other ≡ true → one ≡ other
end_of None None h = refl
end_of None (Some key) h = absurd (false_true h)
end_of (Some key) None h = absurd (false_true h)
end_of (Some key) (Some other) h = ap (λ (k : List ℕ). Some k) ((bytes_eq-Decides key other).0 h)

end_test : (one other : Option (List ℕ)) → one ≡ other → same_end one other ≡ true
end_test None None e = refl
end_test None (Some key) e = absurd (none_some key e)
end_test (Some key) None e = absurd (none_some key (sym e))
end_test (Some key) (Some other) e = (bytes_eq-Decides key other).1 (some_same key other e)

-- the tests of a range, the one way round and the other
from_turned : (o r : Ordering) → o ≡ ordering_reverse r → is_le r ≡ is_ge o
from_turned Less Less e = absurd (cc)
from_turned Less Equal e = absurd (cc)
from_turned Less Greater e = refl
from_turned Equal Less e = absurd (cc)
from_turned Equal Equal e = refl
from_turned Equal Greater e = absurd (cc)
from_turned Greater Less e = refl
from_turned Greater Equal e = absurd (cc)
from_turned Greater Greater e = absurd (cc)

end_turned : (o r : Ordering) → o ≡ ordering_reverse r → not (is_le r) ≡ is_lt o
end_turned Less Less e = absurd (cc)
end_turned Less Equal e = absurd (cc)
end_turned Less Greater e = refl
end_turned Equal Less e = absurd (cc)
end_turned Equal Equal e = refl
end_turned Equal Greater e = absurd (cc)
end_turned Greater Less e = refl
end_turned Greater Equal e = absurd (cc)
end_turned Greater Greater e = absurd (cc)

from_same : (from key : List ℕ) → is_le (order from key) ≡ is_ge (order key from)
from_same from key = from_turned (order key from) (order from key) (nat_list_cmp_total.antisymm key from)

end_same : (end key : List ℕ) → not (is_le (order end key)) ≡ is_lt (order key end)
end_same end key = end_turned (order key end) (order end key) (nat_list_cmp_total.antisymm key end)

within_open : (from key : List ℕ) → range_contains order (Included from) Unbounded key ≡ is_within from None key
within_open from key = ap (λ (b : Bool). b && true) (from_same from key)

within_ended : (from end key : List ℕ) → range_contains order (Included from) (Excluded end) key ≡ is_within from (Some end) key
within_ended from end key = ap (λ (b : Bool). b && not (is_le (order end key))) (from_same from key) ∙ ap (λ (b : Bool). is_ge (order key from) && b) (end_same end key)

same_filter : (p q : Cell → Bool) → ((x : Cell) → p x ≡ q x) → (xs : Pairs) → filter p xs ≡ filter q xs
same_filter p q same [] = refl
same_filter p q same (x ∷ xs) = ap (λ (b : Bool). cond b (x ∷ filter p xs) (filter p xs)) (same x) ∙ ap (λ (zs : Pairs). cond (q x) (x ∷ zs) zs) (same_filter p q same xs)

between_open : (from : List ℕ) (es : Pairs) → entries_between order (Included from) Unbounded es ≡ kept_within from None es
between_open from es = same_filter (λ e. range_contains order (Included from) Unbounded e.0) (λ e. is_within from None e.0) (λ e. within_open from e.0) es

between_ended : (from end : List ℕ) (es : Pairs) → entries_between order (Included from) (Excluded end) es ≡ kept_within from (Some end) es
between_ended from end es = same_filter (λ e. range_contains order (Included from) (Excluded end) e.0) (λ e. is_within from (Some end) e.0) (λ e. within_ended from end e.0) es

-- a range that ends before it begins has no pair
no_filter : (p : Cell → Bool) → ((x : Cell) → p x ≡ false) → (xs : Pairs) → filter p xs ≡ []
no_filter p none [] = refl
no_filter p none (x ∷ xs) = ap (λ (b : Bool). cond b (x ∷ filter p xs) (filter p xs)) (none x) ∙ no_filter p none xs

less_of : (o : Ordering) → is_lt o ≡ true → o ≡ Less
less_of Less h = refl
less_of Equal h = absurd (false_true h)
less_of Greater h = absurd (false_true h)

and_false : (b : Bool) → (b && false) ≡ false
and_false true = refl
and_false false = refl

no_key : (from end key : List ℕ) → order end from ≡ Less → (o : Ordering) → order key end ≡ o → (is_ge (order key from) && is_lt o) ≡ false
no_key from end key before Less is = ap (λ (r : Ordering). is_ge r && true) (nat_list_cmp_total.trans key end from is before)
no_key from end key before Equal is = and_false (is_ge (order key from))
no_key from end key before Greater is = and_false (is_ge (order key from))

none_within : (from end : List ℕ) (es : Pairs) (test : Bool) → test ≡ is_lt (order end from) → test ≡ true → kept_within from (Some end) es ≡ []
none_within from end es test is yes_ = no_filter (λ e. is_within from (Some end) e.0) (λ e. no_key from end e.0 (less_of (order end from) (sym is ∙ yes_)) (order e.0 end) refl) es

-- else it does not
not_past : (o r : Ordering) → o ≡ ordering_reverse r → is_lt o ≡ false → is_le r ≡ true
not_past Less r e h = absurd (false_true (sym h))
not_past Equal Less e h = absurd (cc)
not_past Equal Equal e h = refl
not_past Equal Greater e h = absurd (cc)
not_past Greater Less e h = refl
not_past Greater Equal e h = absurd (cc)
not_past Greater Greater e h = absurd (cc)

greater_not : (o : Ordering) → is_le o ≡ true → is_gt o ≡ false
greater_not Less h = refl
greater_not Equal h = refl
greater_not Greater h = absurd (false_true h)

pub forward : (from end : List ℕ) (test : Bool) → test ≡ is_lt (order end from) → test ≡ false → is_gt (order from end) ≡ false
forward from end test is no_ = greater_not (order from end) (not_past (order end from) (order from end) (nat_list_cmp_total.antisymm end from) (sym is ∙ no_))

-- the pairs of a map in a range, by its list
same_list : (at : Map) (es : Pairs) → IsStrictlySortedBy order (keys_of es) → Holds at es → entries at ≡ es
same_list at es rises holds =
    same_entries order nat_list_cmp_total (slice_cmp-IsAntisymmetric nat_cmp-IsAntisymmetric) (entries at) es (entries_sorted at) (sorted_so es rises)
    (λ key. sym (get-entries at key) ∙ holds key ∙ sym (find_at key es))

within_map : (at : Map) (es : Pairs) (from : List ℕ) (next : Option (List ℕ)) → IsStrictlySortedBy order (keys_of es) → Holds at es → kept_within from next es ≡ pairs_within at from next
within_map at es from next rises holds = ap (λ (all : Pairs). kept_within from next all) (sym (same_list at es rises holds))

-- the range of a page, by its end
pub within_none : (from : List ℕ) (next : Option (List ℕ)) (es shown : Pairs) (test : Bool) → next ≡ None → (test ≡ true ↔ shown ≡ entries_between order (Included from) Unbounded es) → test ≡ true ↔ shown ≡ kept_within from next es
within_none from next es shown test is two = subst (λ (o : Option (List ℕ)). test ≡ true ↔ shown ≡ kept_within from o es) (sym is) (λ h. two.0 h ∙ between_open from es, λ e. two.1 (e ∙ sym (between_open from es)))

pub within_some : (from end : List ℕ) (next : Option (List ℕ)) (es shown : Pairs) (test : Bool) → next ≡ Some end → (test ≡ true ↔ shown ≡ entries_between order (Included from) (Excluded end) es) → test ≡ true ↔ shown ≡ kept_within from next es
within_some from end next es shown test is two =
    subst (λ (o : Option (List ℕ)). test ≡ true ↔ shown ≡ kept_within from o es) (sym is) (λ h. two.0 h ∙ between_ended from end es, λ e. two.1 (e ∙ sym (between_ended from end es)))

no_length : (shown : Pairs) → length shown ≡ 0 → shown ≡ []
no_length [] e = refl
no_length (x ∷ shown) e = absurd (omega arith)

pub within_empty : (from end : List ℕ) (next : Option (List ℕ)) (es shown : Pairs) (before : Bool) → next ≡ Some end → before ≡ is_lt (order end from) → before ≡ true → ((length shown ≡ 0 → shown ≡ kept_within from next es) × (shown ≡ kept_within from next es → length shown ≡ 0))
within_empty from end next es shown before is told yes_ =
    let none : kept_within from next es ≡ [] = ap (λ (o : Option (List ℕ)). kept_within from o es) is ∙ none_within from end es before told yes_ in
    (λ e. no_length shown e ∙ sym none, λ e. ap (λ (all : Pairs). length all) (e ∙ none))

-- tests of lengths
most_of : (a b : ℕ) → nat_le a b ≡ true → a ≤ b
most_of a b h = grind (arith, nat_tests)

most_test : (a b : ℕ) → a ≤ b → nat_le a b ≡ true
most_test a b h = grind (arith, nat_tests)

pub all_compared : (shown all left : Pairs) (i : ℕ) → left ≡ [] → LeftAlike shown all i left → nat_le (length shown) i ≡ true ↔ shown ≡ all
all_compared shown all left i none alike = (
  λ h. left_none shown all left i none alike (most_of (length shown) i h),
  λ e. elim (cases_lt i (length shown)) [
    | inl short ↦ absurd (left_short shown all left i none alike short e)
    | inr le ↦ most_test (length shown) i le
  ],
)

-- what a page shows of an image and of a map
pub page_of : (c : Config) (raw : ℕ → ℕ) (at : Map) (es shown : Pairs) (from : List ℕ) (next end : Option (List ℕ)) (same test : Bool) → IsStrictlySortedBy order (keys_of es) → Holds at es → end ≡ leaf_end_in c raw from → same ≡ same_end next end
    → same ≡ true → (test ≡ true ↔ shown ≡ kept_within from next es) → test ≡ true ↔ ShowsPage c raw at from next shown
page_of c raw at es shown from next end same test rises holds leaf is yes_ two = (
  λ h. record { leaf_end = end_of next end (sym is ∙ yes_) ∙ leaf; pairs = two.0 h ∙ within_map at es from next rises holds },
  λ s. two.1 (s.pairs ∙ sym (within_map at es from next rises holds)),
)

pub other_end : (c : Config) (raw : ℕ → ℕ) (at : Map) (shown : Pairs) (from : List ℕ) (next end : Option (List ℕ)) (same : Bool) → end ≡ leaf_end_in c raw from → same ≡ same_end next end → same ≡ false → ShowsPage c raw at from next shown → ⊥
other_end c raw at shown from next end same leaf is no_ s = false_true (sym no_ ∙ is ∙ end_test next end (s.leaf_end ∙ sym leaf))
