-- What a walk reads of an inner node: how many children it has, and where the pointers to them stand.
use Rattle.std.proofs.Common.{◌≡◌, ℕ, ◌+◌, ◌^◌, ◌<◌, ◌≤◌, ◌==◌, true, false, [], arith, refl, sym, ap, ◌∙◌, inl, inr, subst, Bool, if◌then◌else◌}
use Rattle.std.specs.Prelude.{None, Some, nat_lt, nat_le, ◌&&◌}
use Rattle.std.proofs.lemmas.Bool.Decides.{nat_tests}
use Rattle.bz_content.specs.Content.{IsWellFormed, view_in}
use Rattle.bz_content.specs.Image.{node}
use Rattle.bz_content.specs.Resolving.{resolve}
use Rattle.bz_content.proofs.Honesty.{no}
use Rattle.bz_layout.specs.Addresses.{node_address}
use Rattle.bz_layout.specs.declared.config.Config.{Config}
use Rattle.bz_layout.specs.declared.sizes.TheConstants.{NODE_WORDS, STATUS_AT, META_AT, SHARED_WORDS}
use Rattle.bz_tree.specs.View.{View}
use Rattle.bz_tree.specs.Walk.{Visit}
use Rattle.bz_slotted.specs.Page.{page, meta_of, extent_of, visible}
use Rattle.bz_slotted.specs.Readers.{count_of, child_of}
use Rattle.bz_slotted.specs.Records.{pointer_at}
use Rattle.bz_slotted.specs.Rules.{node_fault}
use Rattle.bz_slotted.specs.Whole.{WholeInner, IsPointer}
use Rattle.bz_slotted.proofs.Proved.{inner_rules_are_facts}
use Rattle.bz_content.specs.View.{root_fault}
use Rattle.bz_layout.specs.declared.sizes.TheConstants.{ROOT_AT, ROOT_STATUS_AT}
use Rattle.bz_node.specs.Reading.{payload_at}
use Rattle.bz_content.proofs.Reached.{is as same}
use Rattle.bz_content.proofs.Proved.{well_formed_images_have_no_fault}
use Rattle.bz_tree.specs.Walk.{start, walk}
use Rattle.bz_tree.specs.declared.rule.ShapeRule.TheVariants.{Root}
use Rattle.bz_tree.proofs.CleanWalks.{clean}
use Rattle.bz_tree.proofs.Visits.{head}
use Rattle.bz_tree.proofs.Proved.{slots_come_once}
use Rattle.bz_word.specs.Statuses.{status}
use Rattle.bz_recover.specs.Walking.{IsTreeOf, IsInner}
use Rattle.bz_recover.proofs.Onward.{IsSound}

-- a tree that breaks no rule
pub sound : (c : Config) (values image : ℕ → ℕ) → IsTreeOf c values image → IsSound (view_in c image)
sound c values image t =
    let well : IsWellFormed c image = (well_formed_images_have_no_fault c image).0 t.none in
    record { none = well.tree.none; once = slots_come_once (view_in c image) well.tree.none }

-- a word of a slot is its value
pub node-value : (c : Config) (values image : ℕ → ℕ) (k i : ℕ) → IsTreeOf c values image → k < c.nodes → i < NODE_WORDS → node c (resolve image) k i ≡ values (node_address c k + i)
unfolding node
node-value c values image k i t slot less =
    let inside : nat_lt i NODE_WORDS ≡ true = grind (arith, nat_tests) in
    rw inside (t.is.resolved (node_address c k + i) (record { within = omega (arith, slot, less); outside = inr (omega arith) }))

-- the rules of an inner node as facts
pub inner-facts : (c : Config) (image : ℕ → ℕ) (u : Visit) (l : ℕ) → IsInner (view_in c image) u l → WholeInner c.nodes (node c image u.slot) (page (node c (resolve image) u.slot)) u.level u.low u.high
inner-facts c image u l i =
    let other : (u.slot == c.nodes) ≡ false = no u.slot c.nodes (omega (arith, i.slot)) in
    let none : node_fault c.nodes (node c image u.slot) (node c (resolve image) u.slot) u.level u.low u.high ≡ None = rw other at i.whole in
    (inner_rules_are_facts c.nodes (node c image u.slot) (node c (resolve image) u.slot) u.level u.low u.high (omega (arith, i.level, i.inner))).0 none

-- how many children it has
pub count-read : (c : Config) (image : ℕ → ℕ) (u : Visit) (l : ℕ) → IsInner (view_in c image) u l → (view_in c image).count u.slot ≡ (status (node c (resolve image) u.slot STATUS_AT)).count
unfolding count_of
count-read c image u l i = let other : (u.slot == c.nodes) ≡ false = no u.slot c.nodes (omega (arith, i.slot)) in rw other refl

-- where the pointer to a child stands lies in the node
pub pointer-inside : (c : Config) (image : ℕ → ℕ) (u : Visit) (l i : ℕ) → IsInner (view_in c image) u l → i < (view_in c image).count u.slot → pointer_at (page (node c (resolve image) u.slot)) i < NODE_WORDS
unfolding count_of
pointer-inside c image u l i n less =
    let w : WholeInner c.nodes (node c image u.slot) (page (node c (resolve image) u.slot)) u.level u.low u.high = inner-facts c image u l n in
    let other : (u.slot == c.nodes) ≡ false = no u.slot c.nodes (omega (arith, n.slot)) in
    let within : i < (page (node c (resolve image) u.slot)).count = rw other at less in
    omega (arith, (w.inside i within).ends, (w.lengths i within).pointer)

-- and the pointer leads to the child
pub record IsChild (c : Config) (v : View) (k i pointer : ℕ) : Type 0 where
  pub some : 0 < pointer
  pub slot : pointer ≤ c.nodes
  pub child : v.child k i + 1 ≡ pointer

pub child-read : (c : Config) (image : ℕ → ℕ) (u : Visit) (l i : ℕ) → IsInner (view_in c image) u l → i < (view_in c image).count u.slot →
    IsChild c (view_in c image) u.slot i (node c (resolve image) u.slot (pointer_at (page (node c (resolve image) u.slot)) i))
unfolding count_of child_of
child-read c image u l i n less =
    let w : WholeInner c.nodes (node c image u.slot) (page (node c (resolve image) u.slot)) u.level u.low u.high = inner-facts c image u l n in
    let other : (u.slot == c.nodes) ≡ false = no u.slot c.nodes (omega (arith, n.slot)) in
    let within : i < (page (node c (resolve image) u.slot)).count = rw other at less in
    let t : nat_lt i (page (node c (resolve image) u.slot)).count ≡ true = grind (arith, nat_tests) in
    let p : IsPointer c.nodes (node c (resolve image) u.slot (pointer_at (page (node c (resolve image) u.slot)) i)) = w.links i within in
    record { some = p.some; slot = p.slot; child = rw (other, t) (omega (arith, p.some)) }

-- a status that was read
pub record ReadsStatus (v : View) (k y : ℕ) : Type 0 where
  pub plain : y < 2 ^ 61
  pub count : v.count k ≡ (status y).count
  pub few : (status y).count ≤ SHARED_WORDS

pub status-read : (c : Config) (values image : ℕ → ℕ) (u : Visit) (l slot y : ℕ) → IsTreeOf c values image → IsInner (view_in c image) u l → u.slot ≡ slot → values (node_address c slot + STATUS_AT) ≡ y → ReadsStatus (view_in c image) u.slot y
status-read c values image u l slot y t i is told =
    let w : WholeInner c.nodes (node c image u.slot) (page (node c (resolve image) u.slot)) u.level u.low u.high = inner-facts c image u l i in
    let word : node c (resolve image) u.slot STATUS_AT ≡ y = node-value c values image u.slot STATUS_AT t i.slot (omega arith) ∙ (ap (λ k. values (node_address c k + STATUS_AT)) is ∙ told) in
    let count : (status (node c (resolve image) u.slot STATUS_AT)).count ≡ (status y).count = ap (λ n. (status n).count) word in
    record {
      plain = subst (λ n. n < 2 ^ 61) word w.filled.status;
      count = count-read c image u l i ∙ count;
      few = omega (arith, w.filled.room, count);
    }

-- a metadata word that was read
pub record ReadsMeta (n : ℕ → ℕ) (i y : ℕ) : Type 0 where
  pub shows : visible (meta_of y) ≡ true
  pub place : pointer_at (page n) i ≡ payload_at (extent_of (meta_of y))
  pub inside : payload_at (extent_of (meta_of y)) < NODE_WORDS

pub meta-read : (c : Config) (values image : ℕ → ℕ) (u : Visit) (l slot i y : ℕ) → IsTreeOf c values image → IsInner (view_in c image) u l → u.slot ≡ slot → i < (view_in c image).count u.slot →
    values (node_address c slot + (META_AT + i)) ≡ y → ReadsMeta (node c (resolve image) slot) i y
unfolding count_of
meta-read c values image u l slot i y t n is less told =
    let w : WholeInner c.nodes (node c image u.slot) (page (node c (resolve image) u.slot)) u.level u.low u.high = inner-facts c image u l n in
    let other : (u.slot == c.nodes) ≡ false = no u.slot c.nodes (omega (arith, n.slot)) in
    let within : i < (page (node c (resolve image) u.slot)).count = rw other at less in
    let word : node c (resolve image) u.slot (META_AT + i) ≡ y = node-value c values image u.slot (META_AT + i) t n.slot (omega (arith, within, w.filled.room)) ∙ (ap (λ k. values (node_address c k + (META_AT + i))) is ∙ told) in
    let meta : meta_of (node c (resolve image) u.slot (META_AT + i)) ≡ meta_of y = ap meta_of word in
    record {
      shows = ap visible (sym meta) ∙ w.shows i within;
      place = ap (λ k. pointer_at (page (node c (resolve image) k)) i) (sym is) ∙ ap (λ m. payload_at (extent_of m)) meta;
      inside = subst (λ m. payload_at (extent_of m) < NODE_WORDS) meta (pointer-inside c image u l i n less);
    }

-- a pointer that was read
pub pointer-read : (c : Config) (values image : ℕ → ℕ) (u : Visit) (l slot i place y : ℕ) → IsTreeOf c values image → IsInner (view_in c image) u l → u.slot ≡ slot → i < (view_in c image).count u.slot →
    pointer_at (page (node c (resolve image) slot)) i ≡ place → values (node_address c slot + place) ≡ y → IsChild c (view_in c image) u.slot i y
pointer-read c values image u l slot i place y t n is less at told =
    let there : pointer_at (page (node c (resolve image) u.slot)) i ≡ place = ap (λ k. pointer_at (page (node c (resolve image) k)) i) is ∙ at in
    let inside : pointer_at (page (node c (resolve image) u.slot)) i < NODE_WORDS = pointer-inside c image u l i n less in
    let word : node c (resolve image) u.slot (pointer_at (page (node c (resolve image) u.slot)) i) ≡ y =
    node-value c values image u.slot (pointer_at (page (node c (resolve image) u.slot)) i) t n.slot inside ∙ ((λ p. values (node_address c (is p) + there p)) ∙ told) in
    subst (IsChild c (view_in c image) u.slot i) word (child-read c image u l i n less)

-- the root pointer
pub record IsRootPointer (c : Config) (pointer : ℕ) : Type 0 where
  pub some : 0 < pointer
  pub slot : pointer ≤ c.nodes

root-inside : (c : Config) (p s : ℕ) → root_fault c.nodes p s ≡ None → IsRootPointer c p
unfolding root_fault
root-inside c p s h = go (nat_lt 0 p && (nat_le p c.nodes && nat_lt s (2 ^ 32))) refl h
  where
    go : (b : Bool) → (nat_lt 0 p && (nat_le p c.nodes && nat_lt s (2 ^ 32))) ≡ b → (if b then None else Some Root) ≡ None → IsRootPointer c p
    go true e h = record { some = grind (arith, nat_tests); slot = grind (arith, nat_tests) }
    go false e h = absurd (cc)

pub root-read : (c : Config) (values image : ℕ → ℕ) (y : ℕ) → IsTreeOf c values image → values ROOT_AT ≡ y → (resolve image ROOT_AT ≡ y) × IsRootPointer c y
root-read c values image y t told =
    let well : IsWellFormed c image = (well_formed_images_have_no_fault c image).0 t.none in
    let v : View = view_in c image in
    let whole : (view_in c image).fault c.nodes (view_in c image).height None None ≡ None = (clean (view_in c image) [] (walk (view_in c image)) well.tree.none).fault (start (view_in c image)) (head (view_in c image) (view_in c image).height (start (view_in c image))) in
    let fine : root_fault c.nodes (resolve image ROOT_AT) (resolve image ROOT_STATUS_AT) ≡ None = rw (same c.nodes) at whole in
    let word : resolve image ROOT_AT ≡ y = t.is.resolved ROOT_AT (record { within = omega arith; outside = inl (omega arith) }) ∙ told in
    (word, subst (IsRootPointer c) word (root-inside c (resolve image ROOT_AT) (resolve image ROOT_STATUS_AT) fine))
