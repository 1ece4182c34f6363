-- Every step of a worker keeps the invariant, and its effect and its answer are right.
use Rattle.std.proofs.Common.{◌≡◌, ◌≢◌, ℕ, ◌*◌, ◌<◌, ◌≤◌, true, false, arith, refl, inr, None}
use Rattle.std.proofs.lemmas.Grind.{common_steps}
use Rattle.bz_word.specs.declared.kind.WordKind.{WordKind}
use Rattle.bz_word.specs.declared.kind.WordKind.TheVariants.{Value, Dirty, Swap, Tag}
use Rattle.bz_swap_machine.specs.Machine.{Entries, Memory}
use Rattle.bz_swap_machine.specs.Changes.{with_word, line_of, with_ask, fenced}
use Rattle.bz_swap_machine.specs.Sound.{AreApart, Sound}
use Rattle.bz_swap_machine.specs.Facts.{Fact}
use Rattle.bz_swap_machine.specs.declared.place.HelpStep.{HelpStep}
use Rattle.bz_swap_machine.specs.HelpActs.{cleared_word, help_act}
use Rattle.bz_swap_machine.specs.declared.place.Place.{Place}
use Rattle.bz_swap_machine.specs.declared.place.Place.TheVariants.{Idle, Prepare, Learn, Help, ReadWord, AskRead, FenceRead, ClearRead, LoadWord, StoreWord, AskLine, FenceLine}
use Rattle.bz_swap_machine.specs.declared.place.PrepareStep.{PrepareStep}
use Rattle.bz_swap_machine.specs.declared.worker.Operation.{Operation}
use Rattle.bz_swap_machine.specs.declared.worker.Operation.TheVariants.{Reading, Swapping}
use Rattle.bz_swap_machine.specs.declared.done.Done.{Done}
use Rattle.bz_swap_machine.specs.declared.done.Done.TheVariants.{Read, Stored, Flushed}
use Rattle.bz_swap_machine.specs.Machine.{entries_in}
use Rattle.bz_swap_machine.specs.Steps.{Local, goes_on, answers, helping, read_act, act}
use Rattle.bz_swap_machine.specs.Knows.{OwnPublished, Owns, BackPublished, AtPlace, has_asked}
use Rattle.bz_swap_machine.specs.Promise.{IsAnswer}
use Rattle.bz_swap_machine.proofs.Change.{Change, change-same}
use Rattle.bz_swap_machine.proofs.Endings.{help_act-ends}
use Rattle.bz_swap_machine.proofs.Good.{Good, good, good-same, good-answers}
use Rattle.bz_swap_machine.proofs.Fine.{Fine}
use Rattle.bz_swap_machine.proofs.HelpActs.{fine-help_act}
use Rattle.bz_swap_machine.specs.Agrees.{agree-spell}
use Rattle.bz_swap_machine.proofs.AgreeActs.{help_act-agrees}
use Rattle.bz_swap_machine.proofs.Helps.{OnSwap, good-after_help, knows-helping, good-on}
use Rattle.bz_swap_machine.proofs.Learns.{good-learnt}
use Rattle.bz_swap_machine.proofs.Prepares.{OnOwn}
use Rattle.bz_swap_machine.proofs.PrepareActs.{good-prepare}
use Rattle.bz_swap_machine.proofs.Words.{change-store}
use Rattle.bz_swap_machine.proofs.Fences.{change-ask, change-fence}
use Rattle.bz_swap_machine.proofs.Values.{change-cleared}
use Rattle.bz_swap_machine.proofs.KeptKnowledge.{back-keeps, owns-keeps}
use Rattle.bz_swap_machine.proofs.Lasting.{lasts-durable}
use Rattle.bz_swap_machine.proofs.Told.{none-fenced_status}

begun-published : (e : ℕ → Entries) (m : Memory) (s : ℕ) → m.published s ≡ true → Sound e m → 0 < (e s).count
begun-published e m s p g = grind (arith, g.begun s, g.not_begun s)

-- an act on a published swap
good-help : (e : ℕ → Entries) (m : Memory) (w : ℕ) (l : Local) (step : HelpStep) → ((t : ℕ) → t ≢ l.current → (m.status_pending t).asked w ≡ None) → AreApart e → OnSwap e m w l → Fact e m w l.current step → Sound e m → Good e m w l (act m w l (Help step))
good-help e m w l step only a o f g =
    let s : ℕ = l.current in
    let fine : Fine e m w s (help_act (e s) m w s step) = fine-help_act e m w s step only a o.published (begun-published e m s o.published g) f g in
    rw (help_act-agrees e (entries_in l.list) m w s step (agree-spell (e s) l.list o.spell) f)
    (good-after_help e m (help_act (e s) m w s step).memory w l (help_act (e s) m w s step).next fine.change o fine.fact (λ d h. help_act-ends e m w s step d f h))

own-read : (m : Memory) (o : Operation) (a : ℕ) → o ≡ Reading a → OwnPublished m o
own-read m o a h = rw h tt

-- the load of the word that is read
good-read : (e : ℕ → Entries) (m : Memory) (w : ℕ) (l : Local) (a : ℕ) (found : WordKind) → m.cached a ≡ found → l.operation ≡ Reading a → Owns m w l.operation → BackPublished m l.back → Sound e m → Good e m w l (read_act m l a found)
good-read e m w l a (Value v) h o owns back g =
    good-answers e m m w l (Read v) (change-same e m l.current g) back (rw o (h, λ nm. grind (arith, common_steps, g.same a (m.durable a) (lasts-durable _ _) nm))) refl
good-read e m w l a (Dirty v) h o owns back g = good-same e m w l (record l { place = AskRead a v }) g (record { place = o; owns = owns; back = back })
good-read e m w l a (Swap t) h o owns back g = good-same e m w l (helping l t None) g (knows-helping e m w l t None (g.pointer a t h).standing (own-read m l.operation a o) owns tt)
good-read e m w l a (Tag t i v q) h o owns back g = good-same e m w l (helping l t None) g (knows-helping e m w l t None (g.tag a t i v q h).standing (own-read m l.operation a o) owns tt)

-- an act of a reader on a dirty word
good-reading : (e : ℕ → Entries) (m n : Memory) (w : ℕ) (l : Local) (place : Place) → Change e m n l.current → Owns m w l.operation → BackPublished m l.back → AtPlace e n w l place → Good e m w l (goes_on n l place)
good-reading e m n w l place c owns back f = good-on e m n w l (record l { place = place }) c (record {
  place = f;
  owns = owns-keeps e m n w l.operation c.keeps (λ s h. c.descriptors s) owns;
  back = back-keeps e m n l.back c.keeps back;
})

-- a fence, by which no status becomes durable
good-fenced : (e : ℕ → Entries) (m : Memory) (w : ℕ) (l : Local) → (m.status_pending l.current).asked w ≡ None → Change e m (fenced m w) l.current → BackPublished m l.back → Good e m w l (answers (fenced m w) l Flushed)
good-fenced e m w l none c back = good e m w l (answers (fenced m w) l Flushed) c (record { place = tt; owns = tt; back = back-keeps e m (fenced m w) l.back c.keeps back }) tt (inr (none-fenced_status m w l.current none))

-- a private store
good-single : (e : ℕ → Entries) (m n : Memory) (w : ℕ) (l : Local) (done : Done) → Change e m n l.current → BackPublished m l.back → IsAnswer e n l.operation done → n.durable_status ≡ m.durable_status → Good e m w l (answers n l done)
good-single e m n w l done c back i st = good-answers e m n w l done c (back-keeps e m n l.back c.keeps back) i st

own-swap : (e : ℕ → Entries) (m : Memory) (w : ℕ) (l : Local) (step : PrepareStep) → AtPlace e m w l (Prepare step) → Owns m w l.operation → BackPublished m l.back → OnOwn e m w l
own-swap e m w l step f owns back =
    let own : Owns m w (Swapping l.current) = rw f.0 at owns in
    record { operation = f.0; unpublished = f.1; spell = f.2; owner = own.0; taken = own.1; unanswered = own.2; back = back }

on-swap : (e : ℕ → Entries) (m : Memory) (w : ℕ) (l : Local) (step : HelpStep) → AtPlace e m w l (Help step) → Owns m w l.operation → BackPublished m l.back → OnSwap e m w l
on-swap e m w l step f owns back = record { published = f.0; own = f.1; spell = f.2; owns = owns; back = back }

pub good-act : (e : ℕ → Entries) (m : Memory) (w : ℕ) (l : Local) (place : Place) → (has_asked place ≡ false → (m.status_pending l.current).asked w ≡ None) → ((t : ℕ) → t ≢ l.current → (m.status_pending t).asked w ≡ None) → AreApart e → (e l.current).count ≤ 4 → Sound e m → AtPlace e m w l place → Owns m w l.operation → BackPublished m l.back
    → Good e m w l (act m w l place)
good-act e m w l Idle home only a few g f owns back = good-same e m w l (record l { place = Idle }) g (record { place = tt; owns = owns; back = back })
good-act e m w l (Prepare step) home only a few g f owns back = good-prepare e m w l step only a few (own-swap e m w l step f owns back) f.3 g
good-act e m w l (Learn k) home only a few g f owns back = good-learnt e m w l k g f owns back
good-act e m w l (Help step) home only a few g f owns back = good-help e m w l step only a (on-swap e m w l step f owns back) f.3 g
good-act e m w l (ReadWord b) home only a few g f owns back = good-read e m w l b (m.cached b) refl f owns back g
good-act e m w l (AskRead b v) home only a few g f owns back = good-reading e m (with_ask m w (line_of b)) w l (FenceRead b v) (change-ask e m w (line_of b) l.current g) owns back f
good-act e m w l (FenceRead b v) home only a few g f owns back = good-reading e m (fenced m w) w l (ClearRead b v) (change-fence e m w l.current only a g) owns back f
good-act e m w l (ClearRead b v) home only a few g f owns back = good-reading e m (cleared_word m b v (m.cached b)) w l (ReadWord b) (change-cleared e m l.current b v (m.cached b) refl g) owns back f
good-act e m w l (LoadWord b) home only a few g f owns back = absurd f
good-act e m w l (StoreWord b v) home only a few g f owns back = good-single e m (with_word m b (Value v)) w l Stored (change-store e m b v l.current f g) back tt refl
good-act e m w l (AskLine line) home only a few g f owns back = good-reading e m (with_ask m w (line_of (line * 8))) w l (FenceLine line) (change-ask e m w (line_of (line * 8)) l.current g) owns back tt
good-act e m w l (FenceLine line) home only a few g f owns back = good-fenced e m w l (home refl) (change-fence e m w l.current only a g) back
