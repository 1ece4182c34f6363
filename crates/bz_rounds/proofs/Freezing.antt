-- The swap of a freeze changes the status of the key's leaf, and in it the frozen bit and the stamp alone.
use Rattle.std.proofs.Common.{◌≡◌, ◌≢◌, ℕ, ◌+◌, ◌^◌, ◌<◌, ◌==◌, true, false, List, [], ◌∷◌, Some, arith, refl, sym, ap, subst, ◌∙◌, inl, inr}
use Rattle.std.proofs.lemmas.Bool.{cases_lt}
use Rattle.std.proofs.lemmas.Bool.Decides.{nat_tests}
use Rattle.bz_layout.specs.Addresses.{node_address}
use Rattle.bz_layout.specs.declared.config.Config.{Config}
use Rattle.bz_layout.specs.declared.sizes.TheConstants.{NODE_WORDS, STATUS_AT, SUPERBLOCK_WORDS, ROOT_AT, ROOT_STATUS_AT}
use Rattle.bz_layout.proofs.Laws.{slots_apart}
use Rattle.bz_tree.specs.Form.{Holds}
use Rattle.bz_slotted.specs.Changes.{Restamps}
use Rattle.bz_word.specs.Statuses.{status}
use Rattle.bz_word.specs.declared.entry.Entry.{Entry}
use Rattle.bz_word.specs.declared.status.Status.{Status}
use Rattle.bz_content.specs.Content.{image_of, leaf_in}
use Rattle.bz_content.specs.Image.{node}
use Rattle.bz_content.specs.Resolving.{resolve}
use Rattle.bz_content.specs.Swaps.{OnLeaf}
use Rattle.bz_task.specs.Good.{IsGood}
use Rattle.bz_task.specs.Instant.{Instant, durable, form_at}
use Rattle.bz_task.specs.Laws.{SlotWords}
use Rattle.bz_task.specs.Scene.{Scene, Waiting, IsScene, here}
use Rattle.bz_task.specs.Steps.{next_stamp, frozen_word}
use Rattle.bz_task.specs.Swaps.{Stand, SwapsTo, swapped}
use Rattle.bz_task.specs.declared.todo.Todo.TheVariants.{Swap as Swaps_for}
use Rattle.bz_task.proofs.FrozenWords.{frozen-plain, frozen-reads}
use Rattle.bz_task.proofs.Proved.{swaps_show_in_slots}
use Rattle.bz_freeze.specs.Facts.{WasLeaf, entry_of, freeze_asks, freeze_facts}
use Rattle.bz_freeze.specs.declared.phase.FreezePhase.{FreezePhase}
use Rattle.bz_freeze.specs.declared.phase.FreezePhase.TheVariants.{Swap}
use Rattle.bz_stage.specs.Stages.{stage_in}
use Rattle.bz_stage.specs.Swaps.{FreezesLeaf}
use Rattle.bz_stage.proofs.Proved.{freezes_lower_the_stage}
use Rattle.bz_undisturbed.proofs.Proved.{freezes_go_on}
use Rattle.bz_rounds.specs.Laws.{UndisturbedFreezesLowerTheStage}
use Rattle.bz_rounds.proofs.Wanting.{lacks-now}
use Rattle.bz_rounds.proofs.Undisturbed.{at-most, good-now, tree-now, leaf-now, holds-now, below-top, same-entries}

-- what one entry sets and leaves
set-one : (e : Entry) (f : ℕ → ℕ) (a : ℕ) → e.target ≡ a → swapped (e ∷ []) f a ≡ e.new
set-one e f a h = let t : (e.target == a) ≡ true = grind (arith, nat_tests) in rw t refl

leave-one : (e : Entry) (f : ℕ → ℕ) (a : ℕ) → e.target ≢ a → swapped (e ∷ []) f a ≡ f a
leave-one e f a h = let t : (e.target == a) ≡ false = grind (arith, nat_tests) in rw t refl

module _ (s : Scene) (y : Instant) (k st : ℕ) (good : IsScene s) (inside : (form_at s.past.config (here s)).inside k ≡ true) (leaf : (form_at s.past.config (here s)).level k ≡ 0) (below : k ≢ s.past.config.nodes) (w : WasLeaf k st s.past)
    (stand : Stand (entry_of s.past.config k st ∷ []) (here s)) (swaps : SwapsTo s.past.config (entry_of s.past.config k st ∷ []) (here s) y) where
  abbrev c : Config
  c = s.past.config

  abbrev entry : Entry
  entry = entry_of s.past.config k st

  g : IsGood s.past.config (here s)
  g = good-now s good

  slot : (j : ℕ) → SlotWords s.past.config (entry ∷ []) (here s) y j
  slot j = swaps_show_in_slots s.past.config (entry ∷ []) (here s) y j swaps

  was : durable c (here s) k STATUS_AT ≡ st
  was = g.shown k STATUS_AT (g.inside k inside below) (inl (omega arith)) ∙ (((slot k).within STATUS_AT (omega arith)).before ∙ stand 0 entry (omega arith))

  is : durable c y k STATUS_AT ≡ frozen_word st
  is = ((slot k).within STATUS_AT (omega arith)).durable_value ∙ set-one entry (resolve (here s).image) (node_address c k + STATUS_AT) refl

  others : (i : ℕ) → i ≢ STATUS_AT → durable c y k i ≡ durable c (here s) k i
  others i ne = elim (cases_lt i NODE_WORDS) [
    | inl l ↦ ((slot k).within i l).durable_value ∙ (leave-one entry (resolve (here s).image) (node_address c k + i) (λ e. ne (omega (arith, e))) ∙ sym ((slot k).within i l).resolved)
    | inr l ↦ (slot k).durable_past i l
  ]

  reads : status (durable c y k STATUS_AT) ≡ record (status st) { frozen = true; stamp = next_stamp (status st).stamp }
  reads = ap status is ∙ frozen-reads st w.plain

  field-stays : (f : Status → ℕ) → f (record (status st) { frozen = true; stamp = next_stamp (status st).stamp }) ≡ f (status st) → f (status (durable c y k STATUS_AT)) ≡ f (status (durable c (here s) k STATUS_AT))
  field-stays f e = ap f reads ∙ (e ∙ ap (λ z. f (status z)) (sym was))

  restamps : Restamps (node c (here s).image k) (node c y.image k) (durable c (here s) k) (durable c y k)
  restamps = record {
    others = others;
    raw = λ i l. (slot k).raw i;
    status = subst (λ z. z < 2 ^ 61) (sym is) (frozen-plain st w.plain);
    count = field-stays (λ z. z.count) refl;
    block = field-stays (λ z. z.block) refl;
    dead = field-stays (λ z. z.dead) refl;
  }

  -- the words of other slots and of the superblock
  far : (j i : ℕ) → j ≢ k → i < NODE_WORDS → node_address c k + STATUS_AT ≢ node_address c j + i
  far j i ne l e = ne (sym (slots_apart c k j STATUS_AT i (omega arith) l e).0)

  at-root : (a : ℕ) → a < SUPERBLOCK_WORDS → resolve y.image a ≡ resolve (here s).image a
  at-root a l = swaps.resolved a (inl l) ∙ leave-one entry (resolve (here s).image) a (λ e. absurd (omega (arith, e, l)))

  on-leaf : OnLeaf c (image_of (here s).image) (image_of y.image) k
  on-leaf = record {
    inside = inside;
    leaf = leaf;
    root = record { pointer = at-root ROOT_AT (omega arith); status = at-root ROOT_STATUS_AT (omega arith) };
    others = λ j ins top ne. record {
      words = λ i l. swaps.resolved (node_address c j + i) (inr (omega arith)) ∙ leave-one entry (resolve (here s).image) (node_address c j + i) (far j i ne l);
      stands = λ i from pointers. (slot j).raw i;
    };
  }

  pub freezes-leaf : FreezesLeaf c (image_of (here s).image) (image_of y.image) k
  freezes-leaf = record { on_leaf = on-leaf; restamps = restamps; thawed = ap (λ z. (status z).frozen) was ∙ w.thawed; frozen = ap (λ z. z.frozen) reads }

-- a freeze that asks for a swap knows that the leaf was not frozen
swapping : (c : Config) (k st : ℕ) (phase : FreezePhase) (s : Scene) (entries : List Entry) → freeze_facts k st phase Waiting s → freeze_asks c k st phase ≡ Some (Swaps_for entries) → WasLeaf k st s.past × (entry_of c k st ∷ [] ≡ entries)
swapping c k st Swap s entries f e = (f.1, same-entries (entry_of c k st ∷ []) entries e)
swapping c k st phase s entries f e = absurd (cc)

pub freezes : UndisturbedFreezesLowerTheStage
freezes t key words entries s y l lacked =
    let f = swapping t.config t.slot t.status t.phase s entries l.knows l.asks in
    let is : entry_of s.past.config t.slot t.status ∷ [] ≡ entries = ap (λ (z : Config). entry_of z t.slot t.status ∷ []) l.config ∙ f.1 in
    let stand : Stand entries (here s) = (freezes_go_on t s l.config l.good l.knows l.alone).stands entries l.asks in
    let h : Holds (form_at s.past.config (here s)) key t.slot = holds-now s l.good key t.slot l.alone lacked.was in
    let leaf : leaf_in s.past.config (here s).image key ≡ t.slot = leaf-now s l.good key t.slot l.alone lacked.was in
    let z : FreezesLeaf s.past.config (image_of (here s).image) (image_of y.image) t.slot =
    freezes-leaf s y t.slot t.status l.good h.inside h.leaf (below-top s l.good key t.slot l.alone lacked.was) f.0 (subst (λ d. Stand d (here s)) (sym is) stand) (subst (λ d. SwapsTo s.past.config d (here s) y) (sym is) l.leads) in
    at-most (stage_in s.past.config y.image key words + 1) (stage_in s.past.config (here s).image key words)
    (freezes_lower_the_stage s.past.config (image_of (here s).image) (image_of y.image) key words (tree-now s l.good) (subst (λ j. FreezesLeaf s.past.config (image_of (here s).image) (image_of y.image) j) (sym leaf) z)
    (lacks-now s l.good l.alone key words t.slot lacked))
