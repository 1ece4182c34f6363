-- The swap of a merge is lawful for everybody and changes no content.
use Rattle.std.proofs.Common.{◌≡◌, ◌≢◌, ℕ, ◌+◌, ◌<◌, ◌==◌, ◌||◌, if◌then◌else◌, Bool, true, false, List, [], ◌∷◌, arith, refl, sym, ap, subst, ◌∙◌, inl, inr, Option}
use Rattle.std.specs.Prelude.{Some, None, not}
use Rattle.std.proofs.lemmas.Bool.{true≢false}
use Rattle.std.proofs.lemmas.Bool.Decides.{nat_tests}
use Rattle.bz_layout.specs.Addresses.{node_address}
use Rattle.bz_layout.specs.declared.sizes.TheConstants.{NODE_WORDS, STATUS_AT}
use Rattle.bz_tree.specs.Form.{Form, Stands}
use Rattle.bz_tree.specs.Order.{is_before, is_at_least, is_below}
use Rattle.bz_tree.specs.Outcomes.{Regrows}
use Rattle.bz_tree.specs.Slots.{Wider}
use Rattle.bz_tree.specs.View.{View}
use Rattle.bz_tree.specs.Walk.{is_among}
use Rattle.bz_slotted.specs.Page.{page}
use Rattle.bz_slotted.specs.Readers.{count_of, child_of, key_of, found_of}
use Rattle.bz_slotted.specs.Rules.{node_fault}
use Rattle.bz_swap.specs.SwapMemory.{is_target}
use Rattle.bz_word.specs.declared.entry.Entry.{Entry}
use Rattle.bz_content.specs.Content.{image_of, view_in, IsWellFormed}
use Rattle.bz_content.specs.Laws.{WellFormedImagesHaveNoFault, PlainWordsStandForThemselves, MergesKeepTheContent}
use Rattle.bz_content.specs.Restructures.{children_of, Merges, StandsWhole}
use Rattle.bz_content.specs.Swaps.{TurnsLink}
use Rattle.bz_task.specs.Good.{IsGood}
use Rattle.bz_task.specs.Instant.{Instant, words, durable, page_at, form_at}
use Rattle.bz_task.specs.Laws.{SamePlace}
use Rattle.bz_task.specs.Outcomes.{IsUnderNode}
use Rattle.bz_task.specs.Scene.{Scene, IsScene, here}
use Rattle.bz_task.specs.Swaps.{Change, Stand, SwapsTo, IsGoodSwap}
use Rattle.bz_task.specs.declared.path.Link.{Link}
use Rattle.bz_renew.specs.Freezings.{Freezing, freezing_entry}
use Rattle.bz_renew.specs.LinkSwaps.{IsFresh, IsLinkSwap, LinkSwapsAreGood}
use Rattle.bz_renew.specs.Renewals.{renewal, link_entry, guard_entry, LinksMayBeTurned}
use Rattle.bz_renew.specs.Standing.{StillLeads}
use Rattle.bz_renew.specs.Turning.{TurnsWith, AreGoing, RootLinksTurnWith, ChildLinksTurnWith}
use Rattle.bz_renew.proofs.Freezings.{renewal-holds}
use Rattle.bz_renew.proofs.FreshSlots.{outside-tree, fresh-unchanged, raw-stays, durable-stays}
use Rattle.bz_renew.proofs.Inserting.{all-inserted-first}
use Rattle.bz_renew.proofs.TwoEntries.{both-stand}
use Rattle.bz_renew.proofs.Words.{untouched, node-same, or-right}
use Rattle.bz_split.specs.BelowSplits.{parent_freezing, below_swap}
use Rattle.bz_merge.specs.Merges.{low_in, high_in, IsMerge, MergesAreGood}
use Rattle.bz_merge.proofs.Standing.{Laws as Standing, not-equal, leads as still-leads, stands-at, flat, slot-of, same-place, same-words, low-is, high-is}
use Rattle.bz_merge.proofs.FrozenLeaves.{Laws as LeafLaws, still-frozen, still-says}

-- the laws on which the swap rests
pub record Laws : Type 0 where
  pub formed : WellFormedImagesHaveNoFault
  pub plain : PlainWordsStandForThemselves
  pub keep : MergesKeepTheContent
  pub may : LinksMayBeTurned
  pub root : RootLinksTurnWith
  pub child : ChildLinksTurnWith
  pub below : Standing
  pub links : LinkSwapsAreGood
  pub leaf : LeafLaws

itself : (k : ℕ) → is_among (k ∷ []) k ≡ true
itself k = let t : (k == k) ≡ true = grind (arith, nat_tests) in rw t refl

out-one : (x k : ℕ) → x ≢ k → is_among (x ∷ []) k ≡ false
out-one x k ne = let t : (x == k) ≡ false = grind (arith, nat_tests) in rw t refl

out-two : (x z k : ℕ) → x ≢ k → z ≢ k → is_among (x ∷ z ∷ []) k ≡ false
out-two x z k ne other = let t : (x == k) ≡ false = grind (arith, nat_tests) in let u : (z == k) ≡ false = grind (arith, nat_tests) in rw (t, u) refl

among-two : (P : ℕ → Type 0) (a p k : ℕ) → P a → P p → is_among (a ∷ p ∷ []) k ≡ true → P k
among-two P a p k f h e = go (a == k) refl (p == k) refl e
  where
    go : (t : Bool) → (a == k) ≡ t → (u : Bool) → (p == k) ≡ u → (t || (u || false)) ≡ true → P k
    go true q u v z = let same : a ≡ k = grind (arith, nat_tests) in subst P same f
    go false q true v z = let same : p ≡ k = grind (arith, nat_tests) in subst P same h
    go false q false v z = absurd (cc)

among-three : (P : ℕ → Type 0) (a b p k : ℕ) → P a → P b → P p → is_among (a ∷ b ∷ p ∷ []) k ≡ true → P k
among-three P a b p k f g h e = go (a == k) refl e
  where
    go : (t : Bool) → (a == k) ≡ t → (t || is_among (b ∷ p ∷ []) k) ≡ true → P k
    go true q z = let same : a ≡ k = grind (arith, nat_tests) in subst P same f
    go false q z = among-two P b p k g h z

-- a key in a range that ends at a separator is before it, and one in a range that begins there is not
ends-before : (key sep : List ℕ) (high : Option (List ℕ)) → high ≡ Some sep → is_below key high ≡ true → is_before key sep ≡ true
ends-before key sep high e h = subst (λ z. is_below key z ≡ true) e h

begins-from : (key sep : List ℕ) (low : Option (List ℕ)) → low ≡ Some sep → is_at_least key low ≡ true → is_before key sep ≡ false
begins-from key sep low e h = go (is_before key sep) refl (subst (λ z. is_at_least key z ≡ true) e h)
  where
    go : (t : Bool) → is_before key sep ≡ t → not t ≡ true → t ≡ false
    go true q z = absurd (true≢false (sym z))
    go false q z = refl

module _ (b : Laws) (s : Scene) (upper lower : Link) (i x z q m : ℕ) (left right : List ℕ) (good : IsScene s) (f : IsMerge upper lower i x z q m left right s) (stand : Stand (below_swap s.past.config upper lower q) (here s)) where
  abbrev p : ℕ
  p = upper.slot

  abbrev frozen : List Freezing
  frozen = parent_freezing upper lower ∷ []

  abbrev gone : List ℕ
  gone = x ∷ z ∷ p ∷ []

  abbrev once : ℕ
  once = f.links.guard.guarded

  abbrev old : ℕ → ℕ
  old = words s.past.config (s.past.at once) p

  guard-now : (here s).value lower.guard ≡ lower.status
  guard-now = ap (here s).value (f.links.under.guard ∙ ap (λ w. node_address s.past.config w + STATUS_AT) f.links.parent) ∙ all-inserted-first (λ (e : Entry). (here s).value e.target ≡ e.expected) (freezing_entry s.past.config (parent_freezing upper lower)) (renewal upper q) stand

  g : IsGood s.past.config (here s)
  g = good.history.good s.past.now good.begun (omega arith)

  leads : StillLeads lower s once p f.links.under.child.child
  leads = still-leads b.below s upper lower good f.links f.leaf guard-now

  pub going : AreGoing frozen gone s
  going = record {
    freezable = (record { reached = leads.reached; plain = (b.may s lower good f.links.guard f.links.thawed).plain; thawed = f.links.thawed }, (refl, tt));
    go = λ k e. or-right (x == k) (is_among (z ∷ p ∷ []) k) (or-right (z == k) (is_among (p ∷ []) k) e);
  }

  abbrev fm : Form
  fm = form_at s.past.config (here s)

  abbrev v : View
  v = view_in s.past.config (here s).image

  first : Stands v fm p i x
  first = stands-at b.below s upper lower good f.links f.leaf guard-now i x (omega (arith, f.had.counted)) f.had.first

  second : Stands v fm p (i + 1) z
  second = stands-at b.below s upper lower good f.links f.leaf guard-now (i + 1) z f.had.counted f.had.second

  first-flat : fm.level x ≡ 0
  first-flat = flat b.below s upper lower good f.links f.leaf guard-now x i first

  second-flat : fm.level z ≡ 0
  second-flat = flat b.below s upper lower good f.links f.leaf guard-now z (i + 1) second

  stood : SamePlace s.past.config (s.past.at once) (here s) p
  stood = same-place b.below s upper lower good f.links f.leaf guard-now

  were : durable s.past.config (here s) p ≡ old
  were = same-words b.below s upper lower good f.links f.leaf guard-now

  low-first : fm.low x ≡ low_in (children_of old) ((form_at s.past.config (s.past.at once)).low p) i
  low-first = low-is b.below s upper lower good f.links f.leaf guard-now x i first

  -- they meet at the separator
  high-first : fm.high x ≡ Some (key_of old (i + 1))
  high-first =
      let t : (i + 1 == count_of old) ≡ false = not-equal (i + 1) (count_of old) (λ e. absurd (omega (arith, e, f.had.counted))) in
      high-is b.below s upper lower good f.links f.leaf guard-now x i first ∙ ap (λ w. if w then (form_at s.past.config (s.past.at once)).high p else Some (key_of old (i + 1))) t

  low-second : fm.low z ≡ Some (key_of old (i + 1))
  low-second =
      let t : (i + 1 == 0) ≡ false = not-equal (i + 1) 0 (λ e. absurd (omega (arith, e))) in
      low-is b.below s upper lower good f.links f.leaf guard-now z (i + 1) second ∙ ap (λ w. if w then (form_at s.past.config (s.past.at once)).low p else Some (key_of old (i + 1))) t

  high-second : fm.high z ≡ high_in (children_of old) ((form_at s.past.config (s.past.at once)).high p) (i + 1)
  high-second = high-is b.below s upper lower good f.links f.leaf guard-now z (i + 1) second

  -- where the upper link stands
  module _ (y : Instant) (gp gi : ℕ) (changed : List ℕ) (t : TurnsWith upper q frozen gone s y gp gi changed) (out_first : is_among changed x ≡ false) (out_second : is_among changed z ≡ false) (swaps : SwapsTo s.past.config (below_swap s.past.config upper lower q) (here s) y) where
    -- the words of a fresh slot afterwards are those that were stored
    module _ (k : ℕ) (fresh : IsFresh s k) where
      unnamed : (j : ℕ) → j < NODE_WORDS → is_target (below_swap s.past.config upper lower q) (node_address s.past.config k + j) ≡ false
      unnamed j n = t.others k j (fresh-unchanged s y changed k good fresh t.changes) n

      after : durable s.past.config y k ≡ words s.past.config (here s) k
      after = durable-stays b.plain (below_swap s.past.config upper lower q) s y k good fresh unnamed swaps

      stands-after : (level : ℕ) (low high : Option (List ℕ)) → node_fault s.past.config.nodes (words s.past.config (here s) k) (words s.past.config (here s) k) level low high ≡ None → StandsWhole s.past.config (image_of y.image) k level low high
      stands-after level low high e = (λ w. node_fault s.past.config.nodes (raw-stays b.plain (below_swap s.past.config upper lower q) s y k good fresh unnamed swaps w) (after w) level low high) ∙ e

    turns : TurnsLink s.past.config (image_of (here s).image) (image_of y.image) (fm.up p) (fm.index p) q gone
    turns =
        subst (λ w. TurnsLink s.past.config (image_of (here s).image) (image_of y.image) w (fm.index p) q gone) (sym t.up)
        (subst (λ w. TurnsLink s.past.config (image_of (here s).image) (image_of y.image) gp w q gone) (sym t.index) t.turns)

    narrower : Wider (children_of (durable s.past.config y q)) (children_of (durable s.past.config (here s) p)) i x z (key_of old (i + 1))
    narrower = subst (λ n. Wider (children_of n) (children_of (durable s.past.config (here s) p)) i x z (key_of old (i + 1))) (sym (after q f.ready.parent_fresh))
        (subst (λ n. Wider (children_of (words s.past.config (here s) q)) (children_of n) i x z (key_of old (i + 1))) (sym were) f.ready.narrower)

    parent-whole : StandsWhole s.past.config (image_of y.image) q (fm.level p) (fm.low p) (fm.high p)
    parent-whole =
        (λ w. node_fault s.past.config.nodes (raw-stays b.plain (below_swap s.past.config upper lower q) s y q good f.ready.parent_fresh (unnamed q f.ready.parent_fresh) swaps w) (after q f.ready.parent_fresh w) (stood.level w) (stood.low w) (stood.high w))
        ∙ f.ready.parent_whole

    leaf-whole : StandsWhole s.past.config (image_of y.image) m 0 (fm.low x) (fm.high z)
    leaf-whole = subst (λ w. StandsWhole s.past.config (image_of y.image) m 0 w (fm.high z)) (sym low-first) (subst (StandsWhole s.past.config (image_of y.image) m 0 _) (sym high-second) (stands-after m f.ready.leaf_fresh 0 _ _ f.ready.leaf_whole))

    merges : Merges s.past.config (image_of (here s).image) (image_of y.image) x z q m (key_of old (i + 1))
    merges = record {
      inside = first.inside;
      inside_b = second.inside;
      leaf = first-flat;
      same_up = second.up ∙ sym first.up;
      next = omega (arith, second.index, first.index);
      deep = λ e. absurd (omega (arith, first.up, e, g.slots p leads.reached));
      fresh_q = outside-tree s q good f.ready.parent_fresh;
      fresh_m = outside-tree s m good f.ready.leaf_fresh;
      two = f.ready.two;
      link = subst (λ w. TurnsLink s.past.config (image_of (here s).image) (image_of y.image) (fm.up w) (fm.index w) q (x ∷ z ∷ w ∷ [])) (sym first.up) turns;
      child = subst (λ w. child_of (durable s.past.config y q) w ≡ m) (sym first.index) (ap (λ n. child_of n i) (after q f.ready.parent_fresh) ∙ f.ready.child);
      narrower = subst (λ w. Wider (children_of (durable s.past.config y q)) (children_of (durable s.past.config (here s) w)) (fm.index x) x z (key_of old (i + 1))) (sym first.up)
          (subst (λ w. Wider (children_of (durable s.past.config y q)) (children_of (durable s.past.config (here s) p)) w x z (key_of old (i + 1))) (sym first.index) narrower);
      says_a = λ key h. ap (λ n. found_of n key) (after m f.ready.leaf_fresh) ∙ (f.ready.before key (ends-before key (key_of old (i + 1)) (fm.high x) high-first h.high) ∙ sym (still-says b.leaf s x left good f.first (slot-of b.below s upper lower good f.links f.leaf guard-now x i first) first.inside first-flat key));
      says_b = λ key h. ap (λ n. found_of n key) (after m f.ready.leaf_fresh) ∙ (f.ready.from key (begins-from key (key_of old (i + 1)) (fm.low z) low-second h.low) ∙ sym (still-says b.leaf s z right good f.second (slot-of b.below s upper lower good f.links f.leaf guard-now z (i + 1) second) second.inside second-flat key));
      whole_q = subst (λ w. StandsWhole s.past.config (image_of y.image) q (fm.level w) (fm.low w) (fm.high w)) (sym first.up) parent-whole;
      whole_m = leaf-whole;
    }

    regrows : Regrows (view_in s.past.config (here s).image) (view_in s.past.config y.image) gone (q ∷ m ∷ [])
    regrows =
        let w : IsWellFormed s.past.config (here s).image = (b.formed s.past.config (here s).image).0 g.form in
        subst (λ k. Regrows (view_in s.past.config (here s).image) (view_in s.past.config y.image) (x ∷ z ∷ k ∷ []) (q ∷ m ∷ [])) first.up
        (b.keep s.past.config (image_of (here s).image) (image_of y.image) x z q m (key_of old (i + 1)) w.tree merges)

    -- the leaves are frozen still, and the parent is frozen then
    leaf-frozen : (k : ℕ) → is_among changed k ≡ false → (page_at s.past.config (here s) k).frozen ≡ true → (page_at s.past.config y k).frozen ≡ true
    leaf-frozen k out e =
        let same : words s.past.config y k ≡ words s.past.config (here s) k = λ w j. node-same s.past.config (here s).value y.value k
        (λ l n. swaps.value (node_address s.past.config k + l) ∙ untouched (below_swap s.past.config upper lower q) (here s).value (node_address s.past.config k + l) (t.others k l out n)) j w in
        ap (λ n. (page n).frozen) same ∙ e

    parent-frozen : (page_at s.past.config y p).frozen ≡ true
    parent-frozen = t.freezes p (itself p)

    pub link-swap : IsLinkSwap (below_swap s.past.config upper lower q) s changed gone (q ∷ m ∷ []) y
    link-swap = record {
      swaps = swaps;
      targets = t.targets;
      others = t.others;
      changes = t.changes;
      root = t.root parent-frozen;
      fresh = λ k e. among-two (IsFresh s) q m k f.ready.parent_fresh f.ready.leaf_fresh e;
      frozen = λ k e. among-three (λ w. (page_at s.past.config y w).frozen ≡ true) x z p k (leaf-frozen x out_first (still-frozen b.leaf s x left good f.first)) (leaf-frozen z out_second (still-frozen b.leaf s z right good f.second)) parent-frozen e;
      regrows = regrows;
    }

  -- a node is none of those above it
  apart : (k j : ℕ) → Stands v fm p j k → p ≢ k
  apart k j t e = absurd (omega (arith, ap fm.level e, t.level))

  -- the node of the upper link, where it is one
  module _ (under : IsUnderNode s.past upper f.links.upper_guard.guarded) where
    upper-now : (here s).value upper.guard ≡ upper.status
    upper-now = (both-stand (link_entry upper q) (guard_entry upper) (here s) (renewal-holds s.past.config upper q (λ (e : Entry). (here s).value e.target ≡ e.expected) frozen stand)).1

    above : StillLeads upper s f.links.upper_guard.guarded under.parent under.child.child
    above = b.below.stand s upper good f.links.upper_guard f.links.upper_thawed under upper-now

    pub not-parent : p ≢ under.parent
    not-parent e = absurd (omega (arith, ap fm.level e, above.stands.level))

    pub not-leaf : (k j : ℕ) → Stands v fm p j k → under.parent ≢ k
    not-leaf k j t e = absurd (omega (arith, ap fm.level e, above.stands.level, t.level))

  pub outcome : (change : Change) (y : Instant) → SwapsTo s.past.config (below_swap s.past.config upper lower q) (here s) y → IsGoodSwap false change (below_swap s.past.config upper lower q) s y
  outcome change y swaps = elim f.links.upper_guard.under [
    | inl root ↦ good-swap s.past.config.nodes 0 (p ∷ []) (b.root s y upper q frozen gone good root f.ready.parent_fresh.slot going stand swaps)
        (out-one p x (apart x i first)) (out-one p z (apart z (i + 1) second))
    | inr node ↦ good-swap node.parent node.child.child (node.parent ∷ p ∷ [])
        (b.child s y upper q frozen gone good f.links.upper_guard f.links.upper_thawed node (out-one p node.parent (not-parent node)) f.ready.parent_fresh.slot going stand swaps)
        (out-two node.parent p x (not-leaf node x i first) (apart x i first)) (out-two node.parent p z (not-leaf node z (i + 1) second) (apart z (i + 1) second))
  ]
    where
      good-swap : (gp gi : ℕ) (changed : List ℕ) → TurnsWith upper q frozen gone s y gp gi changed → is_among changed x ≡ false → is_among changed z ≡ false → IsGoodSwap false change (below_swap s.past.config upper lower q) s y
      good-swap gp gi changed t one two = b.links change (below_swap s.past.config upper lower q) s changed gone (q ∷ m ∷ []) y good (link-swap y gp gi changed t one two swaps)

pub merges-good : Laws → MergesAreGood
merges-good b change s y upper lower i x z q m left right good f stand swaps = outcome b s upper lower i x z q m left right good f stand change y swaps
