-- The swap of a root leaf's split puts a new root over its two halves: the leaf of each key is one of them then.
use Rattle.std.proofs.Common.{◌≡◌, ◌≢◌, ℕ, zero, suc, ◌+◌, ◌-◌, ◌<◌, ◌≤◌, ◌⊎◌, List, [], ◌∷◌, Some, arith, refl, sym, ap, subst, ◌∙◌, inl, inr}
use Rattle.bz_layout.specs.declared.config.Config.{Config}
use Rattle.bz_layout.specs.declared.thresholds.TheConstants.{SPLIT_SLOTS}
use Rattle.bz_tree.proofs.Descents.{pick-le}
use Rattle.bz_tree.specs.Descent.{choice, descend, leaf_of}
use Rattle.bz_tree.specs.Slots.{AreTwo}
use Rattle.bz_tree.specs.View.{View}
use Rattle.bz_slotted.specs.Page.{page}
use Rattle.bz_slotted.specs.ReadingLaws.{node_of}
use Rattle.bz_slotted.specs.Readers.{level_of}
use Rattle.bz_word.specs.declared.entry.Entry.{Entry}
use Rattle.bz_content.proofs.Honesty.{no}
use Rattle.bz_content.proofs.Reached.{is, level-is}
use Rattle.bz_content.specs.Content.{image_of, leaf_in}
use Rattle.bz_content.specs.Image.{Image, node, root}
use Rattle.bz_content.specs.Resolving.{resolve}
use Rattle.bz_content.specs.Restructures.{children_of}
use Rattle.bz_content.specs.View.{view_of}
use Rattle.bz_content.proofs.Proved.{plain_words_stand_for_themselves}
use Rattle.bz_stage.specs.FromLeaves.Neighbours.{leaf_page}
use Rattle.bz_task.specs.Instant.{Instant, durable}
use Rattle.bz_task.specs.Scene.{Scene, Waiting, IsScene, here}
use Rattle.bz_task.specs.Swaps.{Stand, SwapsTo}
use Rattle.bz_task.specs.declared.todo.Todo.TheVariants.{Swap as Swaps_for}
use Rattle.bz_halves.specs.Laws.{IsRootOver}
use Rattle.bz_halves.proofs.Proved.{roots_stand_over_two}
use Rattle.bz_renew.specs.Renewals.{renewal}
use Rattle.bz_renew.specs.Turning.{TurnsAt}
use Rattle.bz_renew.proofs.FreshSlots.{durable-is}
use Rattle.bz_renew.proofs.Proved.{frozen_leaves_stand_still, root_links_turn}
use Rattle.bz_tally.specs.FromSplit.Duties.{split_of}
use Rattle.bz_tally.specs.FromSplit.Facts.{Split, split_plan, split_asks, split_facts}
use Rattle.bz_writer.specs.Laws.{IsWritten}
use Rattle.bz_writer.specs.declared.phase.WritePhase.{WritePhase}
use Rattle.bz_writer.specs.declared.phase.WritePhase.TheVariants.{Swap}
use Rattle.bz_stage.proofs.Leaves.{roomy-ready}
use Rattle.bz_stage.specs.Stages.{full_above}
use Rattle.bz_stage.specs.Swaps.{IsRoomy, IsRoomyLeaf}
use Rattle.bz_undisturbed.proofs.Proved.{root_splits_go_on}
use Rattle.bz_rounds.specs.Laws.{UndisturbedRootLeafSplitsGiveRoom}
use Rattle.bz_rounds.proofs.Lacking.{lacks-room}
use Rattle.bz_rounds.proofs.Undisturbed.{same-entries}
use Rattle.bz_rounds.proofs.Made.{HasRoom, left-has-room, right-has-room}
use Rattle.bz_tally.proofs.Stored.{node-held, node-fresh}

two-down : (v : View) (key : List ℕ) → v.height ≡ 2 → leaf_of v key ≡ v.child (v.child v.top (choice v v.top key)) (choice v (v.child v.top (choice v v.top key)) key)
unfolding descend
two-down v key e = ap (λ d. descend v key d v.top) e

none-left : (a : ℕ) → a ≤ 0 → a ≡ 0
none-left a h = omega arith

less-one : (a n m : ℕ) → a ≤ n - 1 → n ≡ m + 1 → a ≤ m
less-one a n m h e = omega (arith, h, e)

one-left : (a : ℕ) → a ≤ 1 → (a ≡ 0) ⊎ (a ≡ 1)
one-left zero h = inl refl
one-left (suc zero) h = inr refl
one-left (suc (suc a)) h = absurd (omega (arith, h))

-- in an image whose root is q, one level above the leaves, and has two children
module _ (c : Config) (y : Image) (key : List ℕ) (q l r : ℕ) (sep : List ℕ) (root_is : root y.words ≡ q) (below : q ≢ c.nodes) (level : level_of (node c y.words q) ≡ 1) (two : AreTwo (children_of (node c y.words q)) l r sep) where
  abbrev v : View
  v = view_of c y

  height : v.height ≡ 2
  height = ap (λ k. level_of (node c y.words k) + 1) root_is ∙ ap (λ n. n + 1) level

  one : v.count c.nodes ≡ 1
  one = rw (is c.nodes) refl

  first : choice v c.nodes key ≡ 0
  first = none-left (choice v c.nodes key) (less-one (choice v c.nodes key) (v.count c.nodes) 0 (pick-le v c.nodes key (v.count c.nodes - 1)) one)

  to-root : v.child c.nodes (choice v c.nodes key) ≡ q
  to-root = ap (v.child c.nodes) first ∙ (child ∙ root_is)
    where
      child : v.child c.nodes 0 ≡ root y.words
      child = rw (is c.nodes) refl

  counted : v.count q ≡ 2
  counted = count ∙ two.count
    where
      count : v.count q ≡ (children_of (node c y.words q)).count
      count = rw (no q c.nodes below) refl

  has : (i : ℕ) → v.child q i ≡ (children_of (node c y.words q)).child i
  has i = rw (no q c.nodes below) refl

  to-leaf : leaf_of v key ≡ v.child q (choice v q key)
  to-leaf = two-down v key height ∙ ap (λ k. v.child k (choice v k key)) to-root

  pub one-of-two : (leaf_of v key ≡ l) ⊎ (leaf_of v key ≡ r)
  one-of-two =
      let few : choice v q key ≤ 1 = less-one (choice v q key) (v.count q) 1 (pick-le v q key (v.count q - 1)) counted in
      elim (one-left (choice v q key) few) [
        | inl e ↦ inl (to-leaf ∙ (ap (v.child q) e ∙ (has 0 ∙ two.child_l)))
        | inr e ↦ inr (to-leaf ∙ (ap (v.child q) e ∙ (has 1 ∙ two.child_r)))
      ]

module _ (r : Split) (s : Scene) (y : Instant) (good : IsScene s) (f : IsWritten (split_plan r) s) (stand : Stand (renewal r.link (r.slot 0)) (here s)) (swaps : SwapsTo s.past.config (renewal r.link (r.slot 0)) (here s) y) where
  abbrev c : Config
  c = s.past.config

  slot-below : (n : ℕ) → n < SPLIT_SLOTS → r.slot n < c.nodes
  slot-below n h = f.writing.slots.within n h

  t : TurnsAt r.link (r.slot 0) (r.link.slot ∷ []) s y c.nodes 0 []
  t = root_links_turn s y r.link (r.slot 0) (r.link.slot ∷ []) good f.ready.parted.under (slot-below 0 (omega arith)) stand swaps

  after : (n : ℕ) → n < SPLIT_SLOTS → durable c y (r.slot n) ≡ node_of (r.image n)
  after n h =
      durable-is plain_words_stand_for_themselves r.link (r.slot 0) (r.link.slot ∷ []) s y c.nodes 0 [] (r.slot n) good (node-fresh r.slot r.image s f.plain f.writing n h) t swaps
      ∙ node-held r.slot r.image s f.plain f.writing n h

  over : IsRootOver c.nodes (r.slot 1) (r.slot 2) r.sep
  over = roots_stand_over_two c.nodes (r.slot 1) (r.slot 2) r.sep good.config.nodes_in_range.at_most (slot-below 1 (omega arith)) (slot-below 2 (omega arith)) f.ready.parted.separator

  root-words : durable c y (r.slot 0) ≡ node_of (r.image 0)
  root-words = after 0 (omega arith)

  root-is : root (resolve y.image) ≡ r.slot 0
  root-is = omega (arith, (t.turns.at_root refl).pointer)

  level : level_of (durable c y (r.slot 0)) ≡ 1
  level = ap level_of (root-words ∙ ap node_of f.ready.over) ∙ level-is c.nodes 1 _ _ _ _ over.none

  two : AreTwo (children_of (durable c y (r.slot 0))) (r.slot 1) (r.slot 2) r.sep
  two = subst (λ n. AreTwo (children_of n) (r.slot 1) (r.slot 2) r.sep) (sym (root-words ∙ ap node_of f.ready.over)) over.two

  roomy : (n : ℕ) → n < SPLIT_SLOTS → HasRoom (r.image n) → IsRoomyLeaf c (image_of y.image) (r.slot n)
  roomy n h room = subst (λ m. IsRoomy (page m)) (sym (after n h)) room

  pub leaf-roomy : (key : List ℕ) → HasRoom (r.image 1) → HasRoom (r.image 2) → IsRoomyLeaf c (image_of y.image) (leaf_in c y.image key)
  leaf-roomy key left right = elim (one-of-two c (image_of y.image) key (r.slot 0) (r.slot 1) (r.slot 2) r.sep root-is (λ e. absurd (omega (arith, e, slot-below 0 (omega arith)))) level two) [
    | inl e ↦ subst (λ k. IsRoomyLeaf c (image_of y.image) k) (sym e) (roomy 1 (omega arith) left)
    | inr e ↦ subst (λ k. IsRoomyLeaf c (image_of y.image) k) (sym e) (roomy 2 (omega arith) right)
  ]

-- a split that asks for a swap has its nodes ready
swapping : (c : Config) (r : Split) (phase : WritePhase) (s : Scene) (entries : List Entry) → split_facts r phase Waiting s → split_asks c r phase ≡ Some (Swaps_for entries) → IsWritten (split_plan r) s × (renewal r.link (r.slot 0) ≡ entries)
swapping c r Swap s entries f e = (f.1, same-entries (renewal r.link (r.slot 0)) entries e)
swapping c r phase s entries f e = absurd (cc)

pub root-halves : UndisturbedRootLeafSplitsGiveRoom
root-halves t key read words entries s y l was m few =
    let r : Split = split_of t in
    let f = swapping t.config r t.phase s entries l.knows l.asks in
    let stand : Stand entries (here s) = (root_splits_go_on t s l.config l.good l.knows l.alone).stands entries l.asks in
    let d = leaf-roomy r s y l.good f.0 (subst (λ z. Stand z (here s)) (sym f.1) stand) (subst (λ z. SwapsTo s.past.config z (here s) y) (sym f.1) l.leads) key
    (left-has-room read t.halves.left.0 t.halves.right.0 t.halves.separator m) (right-has-room read t.halves.left.0 t.halves.right.0 t.halves.separator m) in
    record {
      lacked = lacks-room s l.good key t.link.slot l.alone was (frozen_leaves_stand_still s t.link.slot f.0.ready.parted.moment l.good f.0.ready.parted.leaf).frozen words;
      room = roomy-ready (leaf_page s.past.config (image_of y.image) key) (full_above s.past.config (image_of y.image) key) words d few;
    }
