-- The split of a node below a parent, whichever node it is: what its swap makes of the image.
use Rattle.std.proofs.Common.{◌≡◌, ℕ, ◌+◌, ◌<◌, true, false, List, [], ◌∷◌, Some, arith, sym, ap, subst, ◌∙◌}
use Rattle.std.specs.Prelude.{None}
use Rattle.bz_layout.specs.Addresses.{node_address}
use Rattle.bz_layout.specs.declared.config.Config.{Config}
use Rattle.bz_layout.specs.declared.sizes.TheConstants.{NODE_WORDS}
use Rattle.bz_tree.specs.Form.{Stands}
use Rattle.bz_tree.specs.Order.{is_before}
use Rattle.bz_tree.specs.Slots.{Wider, Halves}
use Rattle.bz_tree.specs.Split.{AreThree}
use Rattle.bz_slotted.specs.Readers.{found_of}
use Rattle.bz_slotted.specs.Rules.{node_fault}
use Rattle.bz_content.specs.Content.{image_of, view_in}
use Rattle.bz_swap.specs.SwapMemory.{is_target}
use Rattle.bz_content.specs.Image.{Image, node}
use Rattle.bz_content.specs.Restructures.{children_of, SaysInHalves, Splits, StandsWhole}
use Rattle.bz_content.specs.Swaps.{TurnsLink}
use Rattle.bz_content.proofs.Proved.{plain_words_stand_for_themselves}
use Rattle.bz_task.specs.Instant.{Instant, words, durable, form_at}
use Rattle.bz_task.specs.Scene.{Scene, IsScene, here}
use Rattle.bz_task.specs.Swaps.{SwapsTo}
use Rattle.bz_task.specs.declared.path.Link.{Link}
use Rattle.bz_renew.specs.Freezings.{Freezing, renewal_with}
use Rattle.bz_renew.specs.LinkSwaps.{IsFresh}
use Rattle.bz_renew.specs.Turning.{TurnsWith}
use Rattle.bz_renew.proofs.FreshSlots.{outside-tree, fresh-unchanged, raw-stays, durable-stays}

-- slot k is fresh, and has these words
pub record Holds (s : Scene) (k : ℕ) (n : ℕ → ℕ) : Type 0 where
  pub fresh : IsFresh s k
  pub has : words s.past.config (here s) k ≡ n

-- slot a is child i of slot p; the new parent has the words v, with the halves l and r in the place of a, and these have the words n and o
pub record IsReady (s : Scene) (p a i q l r m : ℕ) (sep : List ℕ) (v n o : ℕ → ℕ) : Type 0 where
  pub stands : Stands (view_in s.past.config (here s).image) (form_at s.past.config (here s)) p i a
  pub parent : p < s.past.config.nodes
  pub node : a < s.past.config.nodes
  pub three : AreThree q l r
  pub above : Holds s q v
  pub left : Holds s l n
  pub right : Holds s r o
  pub whole : node_fault s.past.config.nodes v v ((form_at s.past.config (here s)).level p) ((form_at s.past.config (here s)).low p) ((form_at s.past.config (here s)).high p) ≡ None
  pub left_whole : node_fault s.past.config.nodes n n ((form_at s.past.config (here s)).level a) ((form_at s.past.config (here s)).low a) (Some sep) ≡ None
  pub right_whole : node_fault s.past.config.nodes o o ((form_at s.past.config (here s)).level a) (Some sep) ((form_at s.past.config (here s)).high a) ≡ None
  pub wider : Wider (children_of (durable s.past.config (here s) p)) (children_of v) i l r sep
  pub halves : 0 < (form_at s.past.config (here s)).level a → Halves (children_of (durable s.past.config (here s) a)) (children_of n) (children_of o) m sep
  pub before : (form_at s.past.config (here s)).level a ≡ 0 → (key : List ℕ) → is_before key sep ≡ true → found_of n key ≡ found_of (durable s.past.config (here s) a) key
  pub from : (form_at s.past.config (here s)).level a ≡ 0 → (key : List ℕ) → is_before key sep ≡ false → found_of o key ≡ found_of (durable s.past.config (here s) a) key

module _ (s : Scene) (y : Instant) (good : IsScene s) (upper : Link) (freezings : List Freezing) (q : ℕ) (gone : List ℕ) (top j : ℕ) (changed : List ℕ) (t : TurnsWith upper q freezings gone s y top j changed)
    (swaps : SwapsTo s.past.config (renewal_with s.past.config upper q freezings) (here s) y) where
  abbrev c : Config
  c = s.past.config

  abbrev x : Image
  x = image_of (here s).image

  abbrev z : Image
  z = image_of y.image

  -- the words of a fresh slot afterwards are those that were stored
  module _ (k : ℕ) (n : ℕ → ℕ) (f : Holds s k n) where
    unnamed : (i : ℕ) → i < NODE_WORDS → is_target (renewal_with c upper q freezings) (node_address c k + i) ≡ false
    unnamed i h = t.others k i (fresh-unchanged s y changed k good f.fresh t.changes) h

    pub raw-after : node c y.image k ≡ n
    raw-after = raw-stays plain_words_stand_for_themselves (renewal_with c upper q freezings) s y k good f.fresh unnamed swaps ∙ f.has

    pub after : durable c y k ≡ n
    after = durable-stays plain_words_stand_for_themselves (renewal_with c upper q freezings) s y k good f.fresh unnamed swaps ∙ f.has

  module _ (a i l r m : ℕ) (sep : List ℕ) (v n o : ℕ → ℕ) (f : IsReady s upper.slot a i q l r m sep v n o) (go : gone ≡ a ∷ upper.slot ∷ []) where
    abbrev p : ℕ
    p = upper.slot

    says : (form_at c (here s)).level a ≡ 0 → SaysInHalves c x z a l r sep
    says flat = record {
      before = λ key e. ap (λ w. found_of w key) (after l n f.left) ∙ f.before flat key e;
      from = λ key e. ap (λ w. found_of w key) (after r o f.right) ∙ f.from flat key e;
    }

    turns : TurnsLink c x z ((form_at c (here s)).up p) ((form_at c (here s)).index p) q (a ∷ p ∷ [])
    turns =
        subst (λ e. TurnsLink c x z e ((form_at c (here s)).index p) q (a ∷ p ∷ [])) (sym t.up)
        (subst (λ e. TurnsLink c x z top e q (a ∷ p ∷ [])) (sym t.index) (subst (λ e. TurnsLink c x z top j q e) go t.turns))

    wider : Wider (children_of (durable c (here s) p)) (children_of (durable c y q)) i l r sep
    wider = subst (λ w. Wider (children_of (durable c (here s) p)) (children_of w) i l r sep) (sym (after q v f.above)) f.wider

    halves : 0 < (form_at c (here s)).level a → Halves (children_of (durable c (here s) a)) (children_of (durable c y l)) (children_of (durable c y r)) m sep
    halves deep = subst (λ w. Halves (children_of (durable c (here s) a)) (children_of w) (children_of (durable c y r)) m sep) (sym (after l n f.left))
        (subst (λ w. Halves (children_of (durable c (here s) a)) (children_of n) (children_of w) m sep) (sym (after r o f.right)) (f.halves deep))

    parent-whole : StandsWhole c z q ((form_at c (here s)).level p) ((form_at c (here s)).low p) ((form_at c (here s)).high p)
    parent-whole = (λ e. node_fault c.nodes (raw-after q v f.above e) (after q v f.above e) ((form_at c (here s)).level p) ((form_at c (here s)).low p) ((form_at c (here s)).high p)) ∙ f.whole

    up : (form_at c (here s)).up a ≡ p
    up = f.stands.up

    pub splits : Splits c x z a q l r m sep
    splits = record {
      inside = f.stands.inside;
      not_top = λ e. absurd (omega (arith, e, f.node));
      deep = λ e. absurd (omega (arith, e, up, f.parent));
      fresh_q = outside-tree s q good f.above.fresh;
      fresh_l = outside-tree s l good f.left.fresh;
      fresh_r = outside-tree s r good f.right.fresh;
      three = f.three;
      link = subst (λ e. TurnsLink c x z ((form_at c (here s)).up e) ((form_at c (here s)).index e) q (a ∷ e ∷ [])) (sym up) turns;
      wider = subst (λ e. Wider (children_of (durable c (here s) e)) (children_of (durable c y q)) ((form_at c (here s)).index a) l r sep) (sym up)
          (subst (λ e. Wider (children_of (durable c (here s) p)) (children_of (durable c y q)) e l r sep) (sym f.stands.index) wider);
      halves = halves;
      says = says;
      whole_q = subst (λ e. StandsWhole c z q ((form_at c (here s)).level e) ((form_at c (here s)).low e) ((form_at c (here s)).high e)) (sym up) parent-whole;
      whole_l = (λ e. node_fault c.nodes (raw-after l n f.left e) (after l n f.left e) ((form_at c (here s)).level a) ((form_at c (here s)).low a) (Some sep)) ∙ f.left_whole;
      whole_r = (λ e. node_fault c.nodes (raw-after r o f.right e) (after r o f.right e) ((form_at c (here s)).level a) (Some sep) ((form_at c (here s)).high a)) ∙ f.right_whole;
    }
