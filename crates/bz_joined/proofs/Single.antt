-- The freeze of the key's leaf by itself leaves it frozen.
use Rattle.std.proofs.Common.{◌≡◌, ℕ, List, [], ◌∷◌, Some, sym, ap, subst, ◌∙◌}
use Rattle.bz_freeze.specs.Facts.{WasLeaf, entry_of, freeze_asks, freeze_facts}
use Rattle.bz_freeze.specs.declared.phase.FreezePhase.{FreezePhase}
use Rattle.bz_freeze.specs.declared.phase.FreezePhase.TheVariants.{Swap}
use Rattle.bz_layout.specs.declared.config.Config.{Config}
use Rattle.bz_tree.specs.Form.{Holds}
use Rattle.bz_word.specs.declared.entry.Entry.{Entry}
use Rattle.bz_content.specs.Content.{image_of, leaf_in}
use Rattle.bz_task.specs.Instant.{form_at}
use Rattle.bz_task.specs.Scene.{Scene, Waiting, here}
use Rattle.bz_task.specs.Swaps.{Stand, SwapsTo}
use Rattle.bz_task.specs.declared.todo.Todo.TheVariants.{Swap as Swaps_for}
use Rattle.bz_stage.specs.Swaps.{FreezesLeaf}
use Rattle.bz_rounds.proofs.Freezing.{freezes-leaf}
use Rattle.bz_rounds.proofs.Undisturbed.{tree-now, leaf-now, holds-now, below-top, same-entries}
use Rattle.bz_rounds.proofs.FromAlone.Proved.{freezes_go_on}
use Rattle.bz_joined.specs.Undisturbed.{UndisturbedFreezesFreezeTheLeaf}
use Rattle.bz_joined.proofs.Freezes.{freezes-own}

-- a freeze that asks for a swap knows that the leaf was not frozen
known : (c : Config) (k st : ℕ) (phase : FreezePhase) (s : Scene) (entries : List Entry) → freeze_facts k st phase Waiting s → freeze_asks c k st phase ≡ Some (Swaps_for entries) → WasLeaf k st s.past × (entry_of c k st ∷ [] ≡ entries)
known c k st Swap s entries f e = (f.1, same-entries (entry_of c k st ∷ []) entries e)
known c k st phase s entries f e = absurd (cc)

pub freezes-single : UndisturbedFreezesFreezeTheLeaf
freezes-single t key entries s y l was =
    let f = known t.config t.slot t.status t.phase s entries l.knows l.asks in
    let is : entry_of s.past.config t.slot t.status ∷ [] ≡ entries = ap (λ (z : Config). entry_of z t.slot t.status ∷ []) l.config ∙ f.1 in
    let stand : Stand entries (here s) = (freezes_go_on t s l.config l.good l.knows l.alone).stands entries l.asks in
    let h : Holds (form_at s.past.config (here s)) key t.slot = holds-now s l.good key t.slot l.alone was in
    let leaf : leaf_in s.past.config (here s).image key ≡ t.slot = leaf-now s l.good key t.slot l.alone was in
    let z : FreezesLeaf s.past.config (image_of (here s).image) (image_of y.image) t.slot =
    freezes-leaf s y t.slot t.status l.good h.inside h.leaf (below-top s l.good key t.slot l.alone was) f.0 (subst (λ d. Stand d (here s)) (sym is) stand) (subst (λ d. SwapsTo s.past.config d (here s) y) (sym is) l.leads) in
    freezes-own s.past.config (image_of (here s).image) (image_of y.image) key (tree-now s l.good) (subst (λ j. FreezesLeaf s.past.config (image_of (here s).image) (image_of y.image) j) (sym leaf) z)
