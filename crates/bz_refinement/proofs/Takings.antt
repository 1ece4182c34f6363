-- Slots that a worker takes.
use Rattle.std.proofs.Common.{◌≡◌, ◌≢◌, ℕ, ◌||◌, ◌&&◌, ◌==◌, ◌⊎◌, Bool, true, false, List, length, arith, refl, sym, ap, subst, ◌∙◌, inl, inr}
use Rattle.std.proofs.lemmas.Bool.{cases_eq, true≢false}
use Rattle.std.proofs.lemmas.Bool.Decides.{nat_tests}
use Rattle.bz_layout.specs.Slots.{FreeSlots}
use Rattle.bz_layout.specs.declared.config.Config.{Config}
use Rattle.bz_mark.specs.Log.{Log}
use Rattle.bz_mark.specs.declared.marks.Mark.{Mark}
use Rattle.bz_sight.specs.Awaiting.{IsToFence}
use Rattle.bz_sound.specs.Calls.{Open}
use Rattle.bz_swap.specs.SwapMemory.{SwapMemory, Idle, doing_of}
use Rattle.bz_task.specs.OwnActs.{is_gained, gained}
use Rattle.bz_refinement.specs.Laws.{MayTake, SlotsAreTaken, takes_slots}
use Rattle.bz_refinement.specs.Living.{IsLiving, IsHeldBy}
use Rattle.bz_refinement.specs.Story.{Story, scene}
use Rattle.bz_refinement.proofs.Awaiting.{idle-fences-nothing}

-- a slot that a worker took, then, it took before, or it is one of those that are free no more
record TookOrGains (story : Story) (w v k : ℕ) (old new : FreeSlots) : Type 0 where
  is : (story.took v k ≡ true) ⊎ ((v ≡ w) × (is_gained old new k ≡ true))

took-or-gains : (story : Story) (w v k : ℕ) (old new : FreeSlots) → (takes_slots story w old new).took v k ≡ true → TookOrGains story w v k old new
took-or-gains story w v k old new h = go (story.took v k) refl (v == w) refl h
  where
    go : (t : Bool) → story.took v k ≡ t → (b : Bool) → (v == w) ≡ b → t || (b && is_gained old new k) ≡ true → TookOrGains story w v k old new
    go true e b f h = record { is = inl e }
    go false e true f h = record { is = inr (grind (arith, nat_tests), h) }
    go false e false f h = absurd (cc)

taken-living : (c : Config) (m : SwapMemory) (log : Log) (story : Story) (w : ℕ) (old new : FreeSlots) → IsLiving c m log story → doing_of m w ≡ Idle → MayTake c story old new → IsLiving c m log (takes_slots story w old new)
taken-living c m log story w old new l idle may = record {
  from = l.from;
  begins = l.begins;
  seen = l.seen;
  history = l.history;
  words = l.words;
  past = l.past;
  images = l.images;
  effects = l.effects;
  reserved = l.reserved;
  apart = l.apart;
  took = λ v k h. elim (took-or-gains story w v k old new h).is [ inl e ↦ l.took v k e | inr g ↦ may.slots k g.1 ];
  came = λ k r. elim (l.came k r) [ inl e ↦ inl e | inr g ↦ inr (g.0, rw g.1 refl) ];
  stored = l.stored;
  awaits = λ v a held private fence. elim (cases_eq v w) [
    | inl is ↦ absurd (idle-fences-nothing m w a idle (subst (λ z. IsToFence m z a) is fence))
    | inr other ↦ l.awaits v a (held-before v a other held) private fence
  ];
  took_apart = λ u v k h i. one u v k (took-or-gains story w u k old new h).is (took-or-gains story w v k old new i).is;
}
  where
    -- another worker held before what it holds
    held-before : (v a : ℕ) → v ≢ w → IsHeldBy c (story.at (length log.past)) (takes_slots story w old new) v a → IsHeldBy c (story.at (length log.past)) story v a
    held-before v a other (inr r) = inr r
    held-before v a other (inl o) = inl (record {
      slot = o.slot;
      place = o.place;
      address = o.address;
      within = o.within;
      took = elim (took-or-gains story w v o.slot old new o.took).is [ inl e ↦ e | inr g ↦ absurd (other g.0) ];
      unreached = o.unreached;
    })

    one : (u v k : ℕ) → (story.took u k ≡ true) ⊎ ((u ≡ w) × (is_gained old new k ≡ true)) → (story.took v k ≡ true) ⊎ ((v ≡ w) × (is_gained old new k ≡ true)) → u ≡ v
    one u v k (inl e) (inl f) = l.took_apart u v k e f
    one u v k (inl e) (inr g) = absurd (true≢false (sym e ∙ may.nobody u k g.1))
    one u v k (inr g) (inl e) = absurd (true≢false (sym e ∙ may.nobody v k g.1))
    one u v k (inr g) (inr h) = g.0 ∙ sym h.0

-- of what it took the scene alone tells another thing
taken-own : (c : Config) (past : List Mark) (story : Story) (w since : ℕ) (opened : Open) (old new : FreeSlots) → scene c past (takes_slots story w old new) w since opened ≡ gained (scene c past story w since opened) old new
taken-own c past story w since opened old new = ap (λ (t : ℕ → Bool). record (scene c past story w since opened) { took = t }) (λ i k. same k i)
  where
    same : (k : ℕ) → story.took w k || ((w == w) && is_gained old new k) ≡ story.took w k || is_gained old new k
    same k = let t : (w == w) ≡ true = grind (arith, nat_tests) in rw t refl

taken-others : (c : Config) (past : List Mark) (story : Story) (w v since : ℕ) (opened : Open) (old new : FreeSlots) → v ≢ w → scene c past (takes_slots story w old new) v since opened ≡ scene c past story v since opened
taken-others c past story w v since opened old new ne = ap (λ (t : ℕ → Bool). record (scene c past story v since opened) { took = t }) (λ i k. same k i)
  where
    or-off : (t : Bool) → t || false ≡ t
    or-off true = refl
    or-off false = refl

    same : (k : ℕ) → story.took v k || ((v == w) && is_gained old new k) ≡ story.took v k
    same k = let t : (v == w) ≡ false = grind (arith, nat_tests) in rw t (or-off (story.took v k))

pub slots-taken : SlotsAreTaken
slots-taken = record { living = taken-living; own = taken-own; others = taken-others }
