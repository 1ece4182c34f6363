-- A freeze goes on: the status is the one that was read.
use Rattle.std.proofs.Common.{◌≡◌, ℕ, [], ◌∷◌, subst, arith}
use Rattle.std.proofs.lemmas.List.Elements.{All-cons}
use Rattle.bz_word.specs.declared.entry.Entry.{Entry}
use Rattle.bz_task.specs.Scene.{Scene, Waiting, IsScene, here}
use Rattle.bz_task.specs.Swaps.{Stand}
use Rattle.bz_freeze.specs.Facts.{WasLeaf, entry_of, freeze_asks, freeze_facts}
use Rattle.bz_freeze.specs.declared.phase.FreezePhase.{FreezePhase}
use Rattle.bz_freeze.specs.declared.phase.FreezePhase.TheVariants.{Swap}
use Rattle.bz_undisturbed.specs.Undisturbed.{GoesOn}
use Rattle.bz_undisturbed.specs.Laws.{FreezesGoOn}
use Rattle.bz_undisturbed.specs.Quiet.{IsQuietSince}
use Rattle.bz_undisturbed.proofs.Going.{idles, swaps}
use Rattle.bz_undisturbed.proofs.Standing.{reached-in, status-stands}
use Rattle.bz_undisturbed.proofs.Quiet.{undisturbed}

pub one-stands : (e : Entry) (s : Scene) → (here s).value e.target ≡ e.expected → Stand (e ∷ []) (here s)
one-stands e s h = All-cons (λ (z : Entry). (here s).value z.target ≡ z.expected) e [] h (λ i d l. absurd (omega (arith, l)))

module _ (s : Scene) (good : IsScene s) (q : IsQuietSince s.past.since s.past) where
  leaf-stands : (k st : ℕ) → WasLeaf k st s.past → Stand (entry_of s.past.config k st ∷ []) (here s)
  leaf-stands k st w =
      one-stands (entry_of s.past.config k st) s
      (status-stands s good s.past.since q k w.moment st w.since w.now (reached-in s good s.past.since q w.moment k w.since w.now w.slot w.inside) w.was)

  goes : (k st : ℕ) (phase : FreezePhase) → freeze_facts k st phase Waiting s → GoesOn (freeze_asks s.past.config k st phase) (λ seen. ⊥) s
  goes k st Swap f = swaps (entry_of s.past.config k st ∷ []) (λ seen. ⊥) s (leaf-stands k st f.1) (λ seen d. d)
  goes k st phase f = idles _ (λ seen. ⊥) s (λ entries e. absurd (cc)) (λ seen d. d)

pub freezes-go-on : FreezesGoOn
freezes-go-on t s same good f a = subst (λ z. GoesOn (freeze_asks z t.slot t.status t.phase) (λ seen. ⊥) s) same (goes s good (undisturbed.whole s good a) t.slot t.status t.phase f)
