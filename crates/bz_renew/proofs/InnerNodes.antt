-- A reached inner node that is not frozen is one of the tree; its pointers lie behind its metadata.
use Rattle.std.proofs.Common.{◌≡◌, ◌≢◌, ℕ, ◌+◌, ◌^◌, ◌<◌, ◌≤◌, ◌==◌, true, false, arith, refl, sym, ap, subst, ◌∙◌, inl, inr}
use Rattle.std.specs.Prelude.{nat_lt, None}
use Rattle.std.proofs.lemmas.Bool.{true≢false}
use Rattle.std.proofs.lemmas.Bool.Decides.{nat_tests}
use Rattle.bz_layout.specs.declared.config.Config.{Config}
use Rattle.bz_layout.specs.declared.sizes.TheConstants.{STATUS_AT, META_AT}
use Rattle.bz_tree.specs.Form.{Stands}
use Rattle.bz_slotted.specs.Page.{page}
use Rattle.bz_slotted.specs.Readers.{count_of, child_of}
use Rattle.bz_slotted.specs.Records.{pointer_at}
use Rattle.bz_slotted.specs.Rules.{node_fault}
use Rattle.bz_slotted.specs.Whole.{WholeInner}
use Rattle.bz_task.specs.FromContent.Content.{view_in}
use Rattle.bz_task.specs.FromContent.Image.{node}
use Rattle.bz_task.specs.Good.{IsGood}
use Rattle.bz_task.specs.Instant.{Instant, words, durable, page_at, form_at, is_inside}
use Rattle.bz_renew.proofs.Basis.{Laws, fits}

no : (a b : ℕ) → a ≢ b → (a == b) ≡ false
no a b ne = grind (arith, nat_tests)

count-is : (n : ℕ → ℕ) → count_of n ≡ (page n).count
unfolding count_of
count-is n = refl

child-is : (n : ℕ → ℕ) (i to : ℕ) → i < (page n).count → n (pointer_at (page n) i) ≡ to + 1 → child_of n i ≡ to
unfolding child_of
child-is n i to l e = let t : nat_lt i (page n).count ≡ true = grind (arith, nat_tests) in rw t (omega (arith, e))

-- a reached inner node that is not frozen
pub record IsOpen (c : Config) (x : Instant) (p : ℕ) : Type 0 where
  pub reached : x.reached p ≡ true
  pub thawed : (page_at c x p).frozen ≡ false
  pub inner : 0 < (page_at c x p).level

module _ (b : Laws) (c : Config) (x : Instant) (p : ℕ) (g : IsGood c x) (o : IsOpen c x p) where
  pub below : p ≢ c.nodes
  below e = absurd (omega (arith, g.slots p o.reached, e))

  pub inside : is_inside c x p ≡ true
  inside = elim (g.placed p o.reached) [ inl t ↦ t | inr f ↦ absurd (true≢false (sym f ∙ o.thawed)) ]

  -- reads of it answer what the image has
  pub alike : durable c x p ≡ words c x p
  alike = λ t i. g.shown p i o.reached (inr (inr (inl o.inner))) t

  pub level : (form_at c x).level p ≡ (page_at c x p).level
  level = sym (b.headers c x p g below inside).level

  pub high : 0 < (form_at c x).level p
  high = omega (arith, level, o.inner)

  no-fault : node_fault c.nodes (node c x.image p) (durable c x p) ((form_at c x).level p) ((form_at c x).low p) ((form_at c x).high p) ≡ None
  no-fault = rw (no p c.nodes below) at ((fits b c x g).whole p inside below)

  pub whole : WholeInner c.nodes (node c x.image p) (page_at c x p) ((form_at c x).level p) ((form_at c x).low p) ((form_at c x).high p)
  whole = subst (λ n. WholeInner c.nodes (node c x.image p) (page n) ((form_at c x).level p) ((form_at c x).low p) ((form_at c x).high p)) alike
      ((b.inner c.nodes (node c x.image p) (durable c x p) ((form_at c x).level p) ((form_at c x).low p) ((form_at c x).high p) high).0 no-fault)

  pub plain : words c x p STATUS_AT < 2 ^ 61
  plain = whole.filled.status

  pub pointer-far : (j : ℕ) → j < (page_at c x p).count → META_AT + (page_at c x p).count ≤ pointer_at (page_at c x p) j
  pointer-far j l = omega (arith, (whole.inside j l).starts, whole.filled.room)

  -- the child to which one of its pointers leads stands there
  pub child-stands : (j to : ℕ) → j < (page_at c x p).count → words c x p (pointer_at (page_at c x p) j) ≡ to + 1 → Stands (view_in c x.image) (form_at c x) p j to
  child-stands j to l e =
      let count : (view_in c x.image).count p ≡ (page_at c x p).count = rw (no p c.nodes below) (count-is (durable c x p) ∙ ap (λ n. (page n).count) alike) in
      let child : (view_in c x.image).child p j ≡ to = rw (no p c.nodes below) (ap (λ n. child_of n j) alike ∙ child-is (words c x p) j to l e) in
      subst (λ z. Stands (view_in c x.image) (form_at c x) p j z) child ((fits b c x g).down p j inside high (omega (arith, l, count)))
