-- A solitary get, by an act, an eviction and an effect.
use Rattle.std.proofs.Common.{◌≡◌, ℕ, ◌<◌, Bool, ◌∷◌, length, arith, refl, sym, subst, ◌∙◌, inl, inr, Some, None}
use Rattle.std.specs.Prelude.{get_or}
use Rattle.std.proofs.lemmas.Bool.{cases_eq}
use Rattle.bz_swap_acts.specs.declared.acted.Act.{Act}
use Rattle.bz_solo.specs.FromAlone.Brief.{IsBrief}
use Rattle.bz_swap_machine.specs.declared.done.Done.{Done}
use Rattle.bz_mark.specs.declared.marks.Mark.TheVariants.{Evict}
use Rattle.bz_sight.specs.Sight.{next_instant}
use Rattle.bz_sound.specs.Calls.{Open, open_call}
use Rattle.bz_sound.specs.Solitary.{IsSolitary, acts_since}
use Rattle.bz_refinement.specs.Laws.{goes_on}
use Rattle.bz_swap.specs.SwapMemory.{Swapping, doing_of}
use Rattle.bz_world.specs.Inside.Acted.{IsActed, IsEvicted, IsStriking}
use Rattle.bz_world.specs.Inside.Kept.{IsAwake}
use Rattle.bz_world.specs.Inside.Laws.{StepLaws, StrikeLaws}
use Rattle.bz_world.specs.Inside.Solitary.{WhereSolitary, IsNotSolitary, IsSolitaryGet, IsSolitaryIn}
use Rattle.bz_world.specs.Inside.Paid.{stock_of}
use Rattle.bz_world.specs.Inside.Serving.{IsServing}
use Rattle.bz_world.specs.WorldView.{mark_of}
use Rattle.bz_world.specs.declared.parts.Parts.{Parts}
use Rattle.bz_world.specs.declared.serving.OpenCall.{OpenCall}
use Rattle.bz_world.proofs.Solitary.{solitary-act, acts-act, solitary-flush, undisturbed-on, DoesRead, solitary-reads, in-place, only-own}
use Rattle.bz_world.proofs.Marking.{act-calls}
use Rattle.bz_world.proofs.Quiet.{serves}
use Rattle.bz_world.proofs.Striking.{old, kept, w as striker, its as its_call}

-- the call that is served
pub solitary-now : (p : Parts) (k : IsAwake p) (v : ℕ) (x : OpenCall) (is : get_or p.workers.items v None ≡ Some x) → WhereSolitary p.journal.past v x.call (IsSolitaryGet p.access p.journal.past k.story v x (serves p k v x is).opened)
solitary-now p k v x is = k.solitary v x (serves p k v x is).opened is (serves p k v x is).call_open.is_open

pub reads-now : (p : Parts) (k : IsAwake p) (v : ℕ) (x : OpenCall) → get_or p.workers.items v None ≡ Some x → WhereSolitary p.journal.past v x.call (λ key. DoesRead p.access v)
reads-now p k v x is key get solitary = solitary-reads p.config p.access p.journal k.story p.owners.items (stock_of p) v x (serves p k v x is).opened key (serves p k v x is) (solitary-now p k v x is key get solitary)

-- an act at which no swap took effect
module _ (b : StepLaws) (old new : Parts) (w : ℕ) (x : OpenCall) (made : Act) (answer : Done) (k : IsAwake old) (is-worker : get_or old.workers.items w None ≡ Some x) (a : IsActed old w made answer None new) (filled : ℕ → ℕ → Bool) where
  abbrev its : IsServing old.config old.access old.journal k.story old.owners.items (stock_of old) w x
  its = serves old k w x is-worker

  -- of its own is one more
  pub own-acted : WhereSolitary (mark_of w made ∷ old.journal.past) w x.call (IsSolitaryGet new.access (mark_of w made ∷ old.journal.past) (goes_on old.journal k.story new.access filled) w x its.opened)
  own-acted key get solitary = record {
    brief = subst (λ n. IsBrief new.access w n key x.path x.task) (sym (acts-act w old.journal.past made))
        (b.solitary.brief.step old.access new.access w reads.address made answer None (acts_since w old.journal.past) key x.path x.task reads.reads a.step was.brief).1;
    looks = was.looks;
    alone = undisturbed-on k.story.at (length old.journal.past) its.opened.begun (next_instant new.access (k.story.at (length old.journal.past))) (omega (arith, its.call_open.look.after_begin, its.call_open.look.by_now)) refl was.alone;
    quiet = was.quiet;
    thawed = was.thawed;
  }
    where
      before : IsSolitary w old.journal.past
      before = solitary-act w w old.journal.past made solitary

      was : IsSolitaryGet old.access old.journal.past k.story w x its.opened key
      was = solitary-now old k w x is-worker key get before

      reads : DoesRead old.access w
      reads = reads-now old k w x is-worker key get before

  still-open : open_call w (mark_of w made ∷ old.journal.past) ≡ Some its.opened
  still-open = act-calls w w old.journal.past made ∙ its.call_open.is_open

  pub all-acted : (v : ℕ) → IsSolitaryIn new.access (mark_of w made ∷ old.journal.past) (goes_on old.journal k.story new.access filled) old.workers.items v
  all-acted = only-own b.solitary.alone new.access (mark_of w made ∷ old.journal.past) (goes_on old.journal k.story new.access filled) old.workers.items w its.opened still-open
      (in-place new.access (mark_of w made ∷ old.journal.past) (goes_on old.journal k.story new.access filled) old.workers.items w x its.opened is-worker still-open own-acted)

-- an eviction that gives no swap its effect
pub all-evicted : StepLaws → (old new : Parts) (a : ℕ) (k : IsAwake old) → IsEvicted old a None new → (v : ℕ) → IsSolitaryIn new.access (Evict a ∷ old.journal.past) (goes_on old.journal k.story new.access k.story.filled) old.workers.items v
all-evicted b old new a k e v x opened is is-open key get solitary = record {
  brief = (b.solitary.brief.eviction old.access new.access v a reads.address None (acts_since v old.journal.past) key x.path x.task k.living.seen.phase reads.reads e.eviction was.brief).1;
  looks = was.looks;
  alone = undisturbed-on k.story.at (length old.journal.past) opened.begun (next_instant new.access (k.story.at (length old.journal.past))) begun refl was.alone;
  quiet = was.quiet;
  thawed = was.thawed;
}
  where
    was : IsSolitaryGet old.access old.journal.past k.story v x opened key
    was = k.solitary v x opened is is-open key get solitary

    reads : DoesRead old.access v
    reads = reads-now old k v x is key get solitary

    begun : opened.begun < length old.journal.past
    begun =
        let calls : Some (serves old k v x is).opened ≡ Some opened = sym (serves old k v x is).call_open.is_open ∙ is-open in
        let same : (serves old k v x is).opened ≡ opened = cc calls in
        subst (λ (o : Open). o.begun < length old.journal.past) same (omega (arith, (serves old k v x is).call_open.look.after_begin, (serves old k v x is).call_open.look.by_now))

-- where a swap takes effect no get is solitary
pub none-struck : (b : StrikeLaws) (p : Parts) (s : ℕ) (h : IsStriking p s) (v : ℕ) (x : OpenCall) → get_or (old b p s h).workers.items v None ≡ Some x → IsNotSolitary (h.mark ∷ (old b p s h).journal.past) v x.call
none-struck b p s h v x is key get solitary = elim (cases_eq v (striker b p s h)) [
  | inr ne ↦ (let never : None ≡ Some (its_call b p s h).opened = sym (b.solitary.alone v (striker b p s h) (old b p s h).journal.past before (λ e. ne (sym e))) ∙ (its_call b p s h).call_open.is_open in cc never)
  | inl e ↦ (
      let reads : DoesRead (old b p s h).access v = reads-now (old b p s h) (kept b p s h) v x is key get before in
      let swaps : doing_of (old b p s h).access v ≡ Swapping s = subst (λ u. doing_of (old b p s h).access u ≡ Swapping s) (sym e) h.takes.effect.pending in
      cc (reads.reads, swaps))
]
  where
    before : IsSolitary v (old b p s h).journal.past
    before = solitary-flush v h.mark (old b p s h).journal.past h.flush solitary
