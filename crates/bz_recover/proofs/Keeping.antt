-- An image in which words have become what they stand for breaks no rule anew: what its nodes resolve to is the same, and the
-- words of keys and payloads stand for themselves.
use Rattle.std.proofs.Common.{◌≡◌, ◌≢◌, ◌⊎◌, ℕ, zero, suc, ◌+◌, ◌-◌, ◌^◌, ◌<◌, ◌≤◌, ◌==◌, true, false, List, [], ◌∷◌, Option, map, arith, refl, sym, ap, ◌∙◌, inl, inr, subst}
use Rattle.std.specs.Prelude.{nat_lt, None}
use Rattle.std.specs.List.{range_with_len}
use Rattle.std.proofs.lemmas.Bool.{cases_lt, cases_eq, and_parts}
use Rattle.std.proofs.lemmas.Bool.Decides.{nat_tests}
use Rattle.bz_content.proofs.Honesty.{no}
use Rattle.bz_content.proofs.Sames.{node-same, same-super}
use Rattle.bz_content.specs.Content.{image_fault, image_of, is_super, view_in, IsWellFormed}
use Rattle.bz_content.specs.Image.{node, root}
use Rattle.bz_content.specs.Lawful.{is_fixed, is_in_descriptor, is_lawful, is_value, is_word}
use Rattle.bz_content.specs.Resolving.{resolve}
use Rattle.bz_content.proofs.Proved.{views_are_honest, well_formed_images_have_no_fault}
use Rattle.bz_layout.specs.Addresses.{node_address}
use Rattle.bz_layout.specs.declared.config.Config.{Config}
use Rattle.bz_layout.specs.declared.sizes.TheConstants.{NODE_WORDS, SUPERBLOCK_WORDS, ROOT_AT, ROOT_STATUS_AT}
use Rattle.bz_tree.specs.Outcomes.{SameTree, SameContent}
use Rattle.bz_tree.specs.Slots.{SameSlot, SameTop}
use Rattle.bz_tree.specs.Walk.{form, form_of}
use Rattle.bz_tree.proofs.Proved.{unreached_slots_do_not_matter}
use Rattle.bz_slotted.specs.Page.{page, words_at}
use Rattle.bz_slotted.specs.Readers.{level_of, count_of, child_of, key_of, found_of}
use Rattle.bz_slotted.specs.Rules.{node_fault}
use Rattle.bz_slotted.specs.Whole.{Whole, WholeInner, IsPlainKey, IsPlainPayload}
use Rattle.bz_slotted.proofs.Proved.{inner_rules_are_facts, leaf_rules_are_facts}
use Rattle.bz_task.specs.Good.{IsGood}
use Rattle.bz_task.specs.Settled.{settled}
use Rattle.bz_task.proofs.Proved.{roots_are_reached, settled_memories_are_good}
use Rattle.bz_word.specs.declared.meta.Extent.{Extent}
use Rattle.bz_sweep.specs.Areas.{area_of}
use Rattle.bz_sweep.proofs.Entries.{every-same}
use Rattle.bz_sweep.proofs.Images.{plain-resolved}
use Rattle.bz_sweep.proofs.Named.{not-in-descriptor}
use Rattle.bz_recover.specs.Contents.{ResolvesSome, SaysTheSame, ResolvingKeepsTheContent}
use Rattle.bz_recover.specs.Sweep.{IsShared}

-- each word of a node stands as it stood, or as it resolves
abbrev StandsOrIs : (r s n : ℕ → ℕ) → Type 0
StandsOrIs r s n = (i : ℕ) → (s i ≡ r i) ⊎ (s i ≡ n i)

-- words that stood as they resolve still do
map-kept : (r s n : ℕ → ℕ) → StandsOrIs r s n → (xs : List ℕ) → map r xs ≡ map n xs → map s xs ≡ map n xs
map-kept r s n each [] e = refl
map-kept r s n each (x ∷ xs) e =
    let head : r x ≡ n x = cc in
    let tail : map r xs ≡ map n xs = cc in
    let here : s x ≡ n x = elim (each x) [ inl stays ↦ stays ∙ head | inr is ↦ is ] in
    rw (here, map-kept r s n each xs tail) refl

words-kept : (r s n : ℕ → ℕ) (at count : ℕ) → StandsOrIs r s n → words_at r at count ≡ words_at n at count → words_at s at count ≡ words_at n at count
unfolding words_at
words-kept r s n at count each e = map-kept r s n each (range_with_len at count) e

key-kept : (r s n : ℕ → ℕ) (e : Extent) → StandsOrIs r s n → IsPlainKey r n e → IsPlainKey s n e
key-kept r s n e each k = record { stands = words-kept r s n _ _ each k.stands; packs = k.packs }

payload-kept : (r s n : ℕ → ℕ) (e : Extent) → StandsOrIs r s n → IsPlainPayload r n e → IsPlainPayload s n e
payload-kept r s n e each k = record { stands = words-kept r s n _ _ each k.stands; packs = k.packs }

leaf-kept : (r s n : ℕ → ℕ) (lo hi : Option (List ℕ)) → StandsOrIs r s n → Whole r (page n) lo hi → Whole s (page n) lo hi
leaf-kept r s n lo hi each w = record {
  level = w.level;
  fences = w.fences;
  filled = w.filled;
  used = w.used;
  lengths = w.lengths;
  inside = w.inside;
  apart = w.apart;
  key = λ j l v. key-kept r s n _ each (w.key j l v);
  payload = λ j l v. payload-kept r s n _ each (w.payload j l v);
  order = w.order;
  range = w.range;
  distinct = w.distinct;
}

inner-kept : (nodes : ℕ) (r s n : ℕ → ℕ) (l : ℕ) (lo hi : Option (List ℕ)) → StandsOrIs r s n → WholeInner nodes r (page n) l lo hi → WholeInner nodes s (page n) l lo hi
inner-kept nodes r s n l lo hi each w = record {
  level = w.level;
  fences = w.fences;
  filled = w.filled;
  settled = w.settled;
  shows = w.shows;
  lengths = w.lengths;
  inside = w.inside;
  apart = w.apart;
  key = λ j some below. key-kept r s n _ each (w.key j some below);
  rise = w.rise;
  above = w.above;
  below = w.below;
  links = w.links;
}

-- so a node breaks no rule anew
node-kept : (nodes : ℕ) (r s n : ℕ → ℕ) (l : ℕ) (lo hi : Option (List ℕ)) → StandsOrIs r s n → node_fault nodes r n l lo hi ≡ None → node_fault nodes s n l lo hi ≡ None
node-kept nodes r s n zero lo hi each e = (leaf_rules_are_facts nodes s n lo hi).1 (leaf-kept r s n lo hi each ((leaf_rules_are_facts nodes r n lo hi).0 e))
node-kept nodes r s n (suc l) lo hi each e =
    let above : 0 < suc l = omega arith in
    (inner_rules_are_facts nodes s n (suc l) lo hi above).1 (inner-kept nodes r s n (suc l) lo hi each ((inner_rules_are_facts nodes r n (suc l) lo hi above).0 e))

-- the word of a slot
node-word : (c : Config) (f : ℕ → ℕ) (k i : ℕ) → i < NODE_WORDS → node c f k i ≡ f (node_address c k + i)
unfolding node
node-word c f k i l = let t : nat_lt i NODE_WORDS ≡ true = grind (arith, nat_tests) in rw t refl

node-past : (c : Config) (f : ℕ → ℕ) (k i : ℕ) → NODE_WORDS ≤ i → node c f k i ≡ 0
unfolding node
node-past c f k i l = let t : nat_lt i NODE_WORDS ≡ false = grind (arith, nat_tests) in rw t refl

-- the superblock's rule reads words that no swap names
super-fixed : (c : Config) (f g : ℕ → ℕ) → ((a : ℕ) → is_fixed a ≡ true → g a ≡ f a) → is_super c g ≡ is_super c f
unfolding is_super
super-fixed c f g h = rw (h 0 refl, h 3 refl, h 4 refl, every-same 11 (λ i. g (5 + i) == 0) (λ i. f (5 + i) == 0) (λ i l. ap (λ w. w == 0) (h (5 + i) (later i l)))) refl
  where
    later : (i : ℕ) → i < 11 → is_fixed (5 + i) ≡ true
    later i l = grind (arith, nat_tests)

fixed-shared : (c : Config) (a : ℕ) → is_fixed a ≡ true → IsShared c a
fixed-shared c a fix = let low : a < SUPERBLOCK_WORDS = grind (arith, nat_tests) in record { within = omega (arith, low); outside = inl low }

fixed-plain : (c : Config) (raw : ℕ → ℕ) (a : ℕ) → is_fixed a ≡ true → is_lawful c raw a ≡ true → raw a < 2 ^ 61
unfolding is_lawful
fixed-plain c raw a fix t =
    let p = and_parts (is_word (raw a)) _ t in
    let d : is_in_descriptor c a ≡ false = not-in-descriptor (area_of c) a (fixed-shared c a fix) in
    let v : is_value (raw a) ≡ true = rw (d, fix) at p.1 in
    grind (arith, nat_tests)

module _ (c : Config) (v x y : ℕ → ℕ) (none : image_fault c x ≡ None) (r : ResolvesSome c v x y) where
  well : IsWellFormed c x
  well = (well_formed_images_have_no_fault c x).0 none

  good : IsGood c (settled c x)
  good = settled_memories_are_good c x none

  slot : (k : ℕ) → (form (view_in c x)).inside k ≡ true → k ≢ c.nodes → k < c.nodes
  slot k i ne = good.slots k (good.inside k i ne)

  -- what words resolve to
  resolved-same : (a : ℕ) → IsShared c a → resolve y a ≡ resolve x a
  resolved-same a s = r.after.resolved a s ∙ sym (r.before.resolved a s)

  top-shared : (a : ℕ) → a < SUPERBLOCK_WORDS → IsShared c a
  top-shared a l = record { within = omega (arith, l); outside = inl l }

  slot-shared : (k i : ℕ) → k < c.nodes → i < NODE_WORDS → IsShared c (node_address c k + i)
  slot-shared k i l m = record { within = omega (arith, l, m); outside = inr (omega arith) }

  words-same : (k : ℕ) → k < c.nodes → node c (resolve y) k ≡ node c (resolve x) k
  words-same k l = node-same c k (resolve x) (resolve y) (λ i m. resolved-same _ (slot-shared k i l m))

  -- how they stand
  stands : (k : ℕ) → k < c.nodes → StandsOrIs (node c x k) (node c y k) (node c (resolve x) k)
  stands k l i = elim (cases_lt i NODE_WORDS) [
    | inl m ↦ (
        let s : IsShared c (node_address c k + i) = slot-shared k i l m in
        elim (r.words _ s) [
          | inl stays ↦ inl (node-word c y k i m ∙ (stays ∙ sym (node-word c x k i m)))
          | inr value ↦ inr (node-word c y k i m ∙ (value ∙ (sym (r.before.resolved _ s) ∙ sym (node-word c (resolve x) k i m))))
        ])
    | inr m ↦ inl (node-past c y k i m ∙ sym (node-past c x k i m))
  ]

  same-slot : (k : ℕ) → (form (view_in c x)).inside k ≡ true → k ≢ c.nodes → SameSlot (view_in c x) (view_in c y) k
  same-slot k i ne = record {
    count = rw (no k c.nodes ne) (ap count_of same);
    child = λ j. rw (no k c.nodes ne) (ap (λ n. child_of n j) same);
    key = λ j. rw (no k c.nodes ne) (ap (λ n. key_of n j) same);
    found = λ key. rw (no k c.nodes ne) (ap (λ n. found_of n key) same);
    fault = λ l lo hi e. rw (no k c.nodes ne) (ap (λ n. node_fault c.nodes (node c y k) n l lo hi) same ∙ node-kept c.nodes (node c x k) (node c y k) (node c (resolve x) k) l lo hi (stands k (slot k i ne)) (rw (no k c.nodes ne) at e));
  }
    where
      same : node c (resolve y) k ≡ node c (resolve x) k
      same = words-same k (slot k i ne)

  pointer-same : resolve y ROOT_AT ≡ resolve x ROOT_AT
  pointer-same = resolved-same ROOT_AT (top-shared ROOT_AT (omega arith))

  each-slot : (k : ℕ) → (form (view_in c x)).inside k ≡ true → SameSlot (view_in c x) (view_in c y) k
  each-slot k i = elim (cases_eq k c.nodes) [
    | inl e ↦ subst (SameSlot (view_in c x) (view_in c y)) (sym e) (same-super c (image_of x) (image_of y) (record { pointer = pointer-same; status = resolved-same ROOT_STATUS_AT (top-shared ROOT_STATUS_AT (omega arith)) }))
    | inr ne ↦ same-slot k i ne
  ]

  same-top : SameTop (view_in c x) (view_in c y)
  same-top = record {
    top = refl;
    height =
        ap (λ n. level_of (node c (resolve y) n) + 1) (ap (λ n. n - 1) pointer-same)
        ∙ ap (λ f. level_of f + 1) (words-same (root (resolve x)) (roots_are_reached c (settled c x) good).slot);
  }

  both : SameTree (view_in c x) (view_in c y) × SameContent (view_in c x) (view_in c y)
  both = unreached_slots_do_not_matter (view_in c x) (view_in c y) well.tree (views_are_honest c (image_of y)) same-top each-slot

  -- fixed words stand for themselves
  fixed-same : (a : ℕ) → is_fixed a ≡ true → y a ≡ x a
  fixed-same a fix =
      let s : IsShared c a = fixed-shared c a fix in
      let plain : x a < 2 ^ 61 = fixed-plain c x a fix (well.lawful a s.within) in
      elim (r.words a s) [ inl stays ↦ stays | inr value ↦ value ∙ (sym (r.before.resolved a s) ∙ plain-resolved x a plain) ]

  formed : IsWellFormed c y
  formed = record { super = super-fixed c x y fixed-same ∙ well.super; lawful = r.after.lawful; tree = both.0.tree }

  says : SaysTheSame c x y
  says = record {
    well_formed = (well_formed_images_have_no_fault c y).1 formed;
    inside = λ k. ap (λ us. (form_of us).inside k) both.0.walk;
    content = both.1.content;
  }

pub keeps-content : ResolvingKeepsTheContent
keeps-content c v x y none r = says c v x y none r
