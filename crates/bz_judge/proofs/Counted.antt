-- A well-formed image holds as many pairs as its leaves have records: the keys of a leaf differ, and no two leaves share one.
use Rattle.std.proofs.Common.{◌≡◌, ◌≢◌, ℕ, zero, suc, ◌+◌, ◌-◌, ◌<◌, ◌==◌, if◌then◌else◌, Bool, true, false, cond, List, [], ◌∷◌, ◌++◌, length, length-append, arith, refl, sym, ap, subst, ◌∙◌, inl, inr, eqb-true, Option}
use Rattle.std.specs.Prelude.{Some, None}
use Rattle.std.specs.Cmp.Lexicographic.{slice_cmp}
use Rattle.std.specs.FinMap.{FinMap, from_entries, len, get, find, len-entries, len-empty, len-insert, get-from_entries}
use Rattle.std.specs.Ordering.{nat_cmp, eq_by_cmp}
use Rattle.std.specs.Prelude.{is_some}
use Rattle.std.proofs.lemmas.Cmp.{nat_list_cmp_total}
use Rattle.bz_content.specs.Content.{image_of, view_in}
use Rattle.bz_content.specs.Image.{node}
use Rattle.bz_content.specs.Map.{records_in, map_in}
use Rattle.bz_content.specs.Resolving.{resolve}
use Rattle.bz_content.proofs.Honesty.{no}
use Rattle.bz_layout.specs.declared.config.Config.{Config}
use Rattle.bz_tree.specs.Content.{Pairs, pairs_of}
use Rattle.bz_tree.specs.View.{View}
use Rattle.bz_tree.specs.Walk.{Visit, visits, start, walk, IsTree}
use Rattle.bz_tree.proofs.CleanWalks.{Clean, clean}
use Rattle.bz_tree.proofs.Visits.{In}
use Rattle.bz_slotted.specs.Page.{page, visible, extent_of}
use Rattle.bz_slotted.specs.Records.{key_in, payload_in, records_to}
use Rattle.bz_slotted.specs.Rules.{node_fault}
use Rattle.bz_slotted.specs.Whole.{Whole}
use Rattle.bz_slotted.proofs.Proved.{leaf_rules_are_facts}
use Rattle.bz_word.specs.declared.meta.Meta.{Meta}
use Rattle.bz_judge.specs.Inside.Gathers.{in_order}
use Rattle.bz_judge.proofs.AllKeys.{KeysAre, keys-each}
use Rattle.bz_judge.proofs.HeldPairs.{or_else, find-join, all-held}
use Rattle.bz_judge.proofs.InOrder.{exact}

abbrev found_in : List ℕ → Pairs → Option (List ℕ)
found_in key xs = find (slice_cmp nat_cmp) key xs

-- no key comes twice
abbrev AreDistinct : Pairs → Type 0
AreDistinct [] = Unit {0}
AreDistinct (x ∷ xs) = (found_in x.0 xs ≡ None) × AreDistinct xs

one-more : (o : Option (List ℕ)) (n : ℕ) → o ≡ None → cond (is_some o) n (n + 1) ≡ n + 1
one-more None n none = refl
one-more (Some x) n none = absurd (cc none)

-- so each is kept where they are put in order
kept : (xs : Pairs) → AreDistinct xs → length (in_order xs) ≡ length xs
unfolding in_order
kept [] h = sym (len-entries (from_entries {R = slice_cmp nat_cmp} [])) ∙ len-empty (slice_cmp nat_cmp) (List ℕ)
kept (x ∷ xs) h =
    let rest : FinMap (slice_cmp nat_cmp) (List ℕ) = from_entries xs in
    let new : get rest x.0 ≡ None = get-from_entries nat_list_cmp_total xs x.0 ∙ h.0 in
    let longer : len (from_entries {R = slice_cmp nat_cmp} (x ∷ xs)) ≡ len rest + 1 = len-insert nat_list_cmp_total rest x.0 x.1 ∙ one-more (get rest x.0) (len rest) new in
    omega (arith, kept xs h.1, len-entries rest, len-entries (from_entries {R = slice_cmp nat_cmp} (x ∷ xs)), longer)

-- records of different keys
other : (a b : List ℕ) → a ≢ b → eq_by_cmp (slice_cmp nat_cmp) a b ≡ false
other a b ne = by (eq_by_cmp (slice_cmp nat_cmp) a b) refl
  where
    by : (t : Bool) → eq_by_cmp (slice_cmp nat_cmp) a b ≡ t → eq_by_cmp (slice_cmp nat_cmp) a b ≡ false
    by true is = absurd (ne (exact a b is))
    by false is = is

none-of : (o : Option (List ℕ)) (rest : Option (List ℕ)) → o ≡ None → rest ≡ None → or_else o rest ≡ None
unfolding or_else
none-of None rest none e = e
none-of (Some x) rest none e = absurd (cc none)

one-behind : (xs : Pairs) (key payload : List ℕ) → AreDistinct xs → KeysAre (λ k. k ≢ key) xs → AreDistinct (xs ++ (key, payload) ∷ [])
one-behind [] key payload h differ = (refl, tt)
one-behind (x ∷ xs) key payload h differ = (
  find-join x.0 xs ((key, payload) ∷ []) ∙ none-of (found_in x.0 xs) (found_in x.0 ((key, payload) ∷ [])) h.0 (ap (λ (t : Bool). cond t (Some payload) None) (other x.0 key differ.0)),
  one-behind xs key payload h.1 differ.1,
)

none-behind : (xs : Pairs) → AreDistinct xs → AreDistinct (xs ++ [])
none-behind [] h = tt
none-behind (x ∷ xs) h = (find-join x.0 xs [] ∙ none-of (found_in x.0 xs) None h.0 refl, none-behind xs h.1)

records-differ : (n : ℕ → ℕ) (meta : ℕ → Meta) (count : ℕ)
    → ((i j : ℕ) → i < count → j < count → i ≢ j → visible (meta i) ≡ true → visible (meta j) ≡ true → key_in n (extent_of (meta i)) ≢ key_in n (extent_of (meta j))) → AreDistinct (records_to n meta count)
unfolding records_to
records-differ n meta zero apart = tt
records-differ n meta (suc k) apart = last (visible (meta k)) refl (records-differ n meta k (λ i j l m. apart i j (omega arith) (omega arith)))
  where
    last : (b : Bool) → visible (meta k) ≡ b → AreDistinct (records_to n meta k) → AreDistinct (records_to n meta k ++ (if b then (key_in n (extent_of (meta k)), payload_in n (extent_of (meta k))) ∷ [] else []))
    last true shown before = one-behind (records_to n meta k) _ _ before
        (keys-each (λ key. key ≢ key_in n (extent_of (meta k))) n meta k (λ j l here. apart j k (omega arith) (omega arith) (λ e. omega arith) here shown))
    last false hidden before = none-behind (records_to n meta k) before

-- of the leaves of a list of visits
lengths : (f : ℕ → Pairs) (us : List Visit) → ((u : Visit) → In u us → u.level ≡ 0 → length (in_order (f u.slot)) ≡ length (f u.slot)) → length (pairs_of (λ k. in_order (f k)) us) ≡ length (pairs_of f us)
unfolding pairs_of
lengths f [] each = refl
lengths f (u ∷ us) each = here (u.level == 0) refl (lengths f us (λ w there leaf. each w (inr there) leaf))
  where
    here : (b : Bool) → (u.level == 0) ≡ b → length (pairs_of (λ k. in_order (f k)) us) ≡ length (pairs_of f us) → length ((if b then in_order (f u.slot) else []) ++ pairs_of (λ k. in_order (f k)) us) ≡ length ((if b then f u.slot else []) ++ pairs_of f us)
    here true leaf rest = omega (arith, length-append (in_order (f u.slot)) (pairs_of (λ k. in_order (f k)) us), length-append (f u.slot) (pairs_of f us), rest, each u (inl refl) (eqb-true u.level 0 leaf))
    here false inner rest = rest

-- a leaf of the image
leaf-kept : (c : Config) (raw : ℕ → ℕ) (u : Visit) → u.level ≡ 0 → u.slot ≢ c.nodes → (view_in c raw).fault u.slot u.level u.low u.high ≡ None
    → length (in_order (records_in c (image_of raw) u.slot)) ≡ length (records_in c (image_of raw) u.slot)
leaf-kept c raw u level slot none =
    let e : node_fault c.nodes (node c raw u.slot) (node c (resolve raw) u.slot) 0 u.low u.high ≡ None = subst (λ l. node_fault c.nodes (node c raw u.slot) (node c (resolve raw) u.slot) l u.low u.high ≡ None) level (rw (no u.slot c.nodes slot) at none) in
    let w : Whole (node c raw u.slot) (page (node c (resolve raw) u.slot)) u.low u.high = (leaf_rules_are_facts c.nodes (node c raw u.slot) (node c (resolve raw) u.slot) u.low u.high).0 e in
    kept (records_in c (image_of raw) u.slot) (records-differ (node c (resolve raw) u.slot) (page (node c (resolve raw) u.slot)).meta (page (node c (resolve raw) u.slot)).count w.distinct)

-- the leaves of the tree lie below the superblock
below : (v : View) (h : ℕ) (P : Visit → Type 0) → Clean v [] (visits v (suc h) (start v)) → 0 < v.height
    → ((u : Visit) → u.level ≡ 0 → u.slot ≢ v.top → v.fault u.slot u.level u.low u.high ≡ None → P u) → (u : Visit) → In u (visits v (suc h) (start v)) → u.level ≡ 0 → P u
unfolding visits
below v h P c tall each u (inl same) leaf = absurd (omega (arith, tall, leaf, ap (λ (x : Visit). x.level) same))
below v h P c tall each u (inr there) leaf = each u leaf (c.apart.0 u there) (c.fault u (inr there))

-- the records of a leaf stay as many
abbrev IsKept : Config → (ℕ → ℕ) → Visit → Type 0
IsKept c raw u = length (in_order (records_in c (image_of raw) u.slot)) ≡ length (records_in c (image_of raw) u.slot)

all-kept : (c : Config) (raw : ℕ → ℕ) → IsTree (view_in c raw) → (u : Visit) → In u (walk (view_in c raw)) → u.level ≡ 0 → IsKept c raw u
all-kept c raw tree =
    let v : View = view_in c raw in
    let height : v.height ≡ suc (v.height - 1) = omega (arith, tree.tall) in
    subst (λ n. (u : Visit) → In u (visits v n (start v)) → u.level ≡ 0 → IsKept c raw u) (sym height)
    (below v (v.height - 1) (IsKept c raw) (subst (λ n. Clean v [] (visits v n (start v))) height (clean v [] (walk v) tree.none)) tree.tall (leaf-kept c raw))

-- so the map has as many pairs as the walk comes to
pub counted : (c : Config) (raw : ℕ → ℕ) → IsTree (view_in c raw) → length (pairs_of (records_in c (image_of raw)) (walk (view_in c raw))) ≡ len (map_in c raw)
counted c raw tree =
    sym (lengths (records_in c (image_of raw)) (walk (view_in c raw)) (all-kept c raw tree))
    ∙ ap length (all-held c raw tree) ∙ sym (len-entries (map_in c raw))
