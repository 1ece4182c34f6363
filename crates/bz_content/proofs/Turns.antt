-- A swap of one link, told of words, is one of the slots.
use Rattle.std.proofs.Common.{◌≡◌, ◌≢◌, ℕ, ◌+◌, ◌-◌, ◌^◌, ◌<◌, ◌==◌, if◌then◌else◌, ◌⊎◌, true, false, arith, refl, sym, ap, subst, ◌∙◌, inl, inr}
use Rattle.std.specs.Prelude.{nat_lt, nat_le, None}
use Rattle.std.proofs.lemmas.Bool.{cases_eq}
use Rattle.std.proofs.lemmas.Bool.Decides.{nat_tests}
use Rattle.bz_layout.specs.declared.config.Config.{Config}
use Rattle.bz_tree.specs.Form.{Fits}
use Rattle.bz_tree.specs.Slots.{SameSlot, Relinked}
use Rattle.bz_tree.specs.Walk.{is_among}
use Rattle.bz_slotted.specs.InnerChanges.{ChangesChild}
use Rattle.bz_slotted.specs.Readers.{level_of, child_of}
use Rattle.bz_slotted.proofs.Proved.{pointer_swap_changes_child}
use Rattle.bz_content.specs.Changes.{SameNode}
use Rattle.bz_content.specs.Image.{Image, node, root}
use Rattle.bz_content.specs.Laws.{LinksAreTurned}
use Rattle.bz_content.specs.Swaps.{form_in, TurnsRoot}
use Rattle.bz_content.specs.View.{root_fault, view_of}
use Rattle.bz_content.proofs.Honesty.{no}
use Rattle.bz_content.proofs.Reached.{is, fits, root-stands, root-below, level-is, level-at}
use Rattle.bz_content.proofs.Sames.{node-same, same-slot, same-super}

pub root-whole : (nodes pointer status : ℕ) → 0 < pointer → pointer < nodes + 1 → status < 2 ^ 32 → root_fault nodes pointer status ≡ None
unfolding root_fault
root-whole nodes pointer status a b d =
    let p : nat_lt 0 pointer ≡ true = grind (arith, nat_tests) in
    let q : nat_le pointer nodes ≡ true = grind (arith, nat_tests) in
    let s : nat_lt status (2 ^ 32) ≡ true = grind (arith, nat_tests) in
    rw (p, q, s) refl

-- what changes in an inner node whose pointer is swapped
abbrev Turns : Config → Image → Image → ℕ → ℕ → ℕ → Type 0
Turns c x y p i to =
    ChangesChild c.nodes (node c y.raw p) (node c x.words p) (node c y.words p) ((form_in c x).level p) ((form_in c x).low p) ((form_in c x).high p) i to

turned-root : (c : Config) (x y : Image) (to : ℕ) → TurnsRoot c y to → Relinked (view_of c x) (view_of c y) (form_in c x) c.nodes 0 to
turned-root c x y to t = record {
  count = rw (is c.nodes) refl;
  key = λ j. rw (is c.nodes) refl;
  child = λ j. rw (is c.nodes) (child j);
  whole = rw (is c.nodes) (root-whole c.nodes (y.words 1) (y.words 2) (omega (arith, t.pointer)) (omega (arith, t.pointer, t.slot)) t.status);
}
  where
    child : (j : ℕ) → (if j == 0 then root y.words else 0) ≡ (if j == 0 then to else (if j == 0 then root x.words else 0))
    child j = elim (cases_eq j 0) [ inl e ↦ rw e (omega (arith, t.pointer)) | inr ne ↦ rw (no j 0 ne) refl ]

turned-child : (c : Config) (x y : Image) (p i to : ℕ) → p ≢ c.nodes → Turns c x y p i to → Relinked (view_of c x) (view_of c y) (form_in c x) p i to
turned-child c x y p i to ne t = record {
  count = rw (no p c.nodes ne) t.count;
  key = λ j. rw (no p c.nodes ne) (t.keys j);
  child = λ j. rw (no p c.nodes ne) (child j);
  whole = rw (no p c.nodes ne) t.none;
}
  where
    child : (j : ℕ) → child_of (node c y.words p) j ≡ (if j == i then to else child_of (node c x.words p) j)
    child j = elim (cases_eq j i) [ inl e ↦ rw (e, is i) t.child | inr far ↦ rw (no j i far) (t.others j far) ]

pub links-turned : LinksAreTurned
links-turned c x y p i to gone t s = record {
  link = elim (cases_eq p c.nodes) [
    | inl e ↦ subst (λ k. Relinked (view_of c x) (view_of c y) (form_in c x) k i to) (sym e)
        (subst (λ k. Relinked (view_of c x) (view_of c y) (form_in c x) c.nodes k to) (sym (s.first e)) (turned-root c x y to (s.at_root e)))
    | inr ne ↦ turned-child c x y p i to ne (turns ne)
  ];
  others = λ j ins far kept. elim (cases_eq j c.nodes) [
    | inl e ↦ subst (λ k. SameSlot (view_of c x) (view_of c y) k) (sym e) (same-super c x y (s.below_root (λ q. far (e ∙ sym q))).1)
    | inr ne ↦ same-slot c x y j ne (s.others j ins ne far kept)
  ];
  below_root = λ ne kept. record { top = refl; height = ap (λ l. l + 1) (below ne kept (cases_eq (root x.words) p)) };
  at_root = λ e same. record { top = refl; height = ap (λ l. l + 1) ((ap (λ k. level_of (node c y.words k)) (root_to (s.at_root e))) ∙ same) };
}
  where
    g : Fits (view_of c x) (form_in c x)
    g = fits c x t

    turns : p ≢ c.nodes → Turns c x y p i to
    turns ne = pointer_swap_changes_child c.nodes (node c x.raw p) (node c y.raw p) (node c x.words p) (node c y.words p) _ _ _ i to s.inner (rw (no p c.nodes ne) at (g.whole p s.inside ne)) (s.below_root ne).0

    root_to : TurnsRoot c y to → root y.words ≡ to
    root_to r = omega (arith, r.pointer)

    below : p ≢ c.nodes → is_among gone (root x.words) ≡ false → (root x.words ≡ p) ⊎ (root x.words ≢ p) → level_of (node c y.words (root y.words)) ≡ level_of (node c x.words (root x.words))
    below ne kept w =
        let r : root y.words ≡ root x.words = ap (λ a. a - 1) (s.below_root ne).1.pointer in
        ap (λ k. level_of (node c y.words k)) r ∙ elim w [
          | inl e ↦
              subst (λ k. level_of (node c y.words k) ≡ level_of (node c x.words k)) (sym e)
              (level-is c.nodes ((form_in c x).level p) (node c y.raw p) (node c y.words p) _ _ (turns ne).none
              ∙ sym (level-at c x p g s.inside ne))
          | inr far ↦
              let same : SameNode c x y (root x.words) = s.others (root x.words) (root-stands c x g).inside (root-below c x g) far kept in
              ap level_of (node-same c (root x.words) x.words y.words same.words)
        ]
