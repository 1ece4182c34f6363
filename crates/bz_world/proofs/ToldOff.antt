-- While the power recovers the journal shows nothing taken and nothing stored into since it came on: worker 0 alone has acted.
use Rattle.std.proofs.Common.{◌≡◌, ℕ, zero, suc, false, List, [], ◌∷◌, refl, sym, ◌∙◌}
use Rattle.bz_call.specs.Map.{Map}
use Rattle.bz_layout.specs.declared.config.Config.{Config}
use Rattle.bz_mark.specs.declared.marks.Mark.{Mark}
use Rattle.bz_mark.specs.declared.marks.Mark.TheVariants.{Begin, End, Load, Store, Cas, Ask, Fence, Evict, Cut, On, Ready, Effect}
use Rattle.bz_mark.specs.Counts.{is_taken}
use Rattle.bz_sound.specs.Memory.Spent.{is_stored_into}
use Rattle.bz_sound.specs.Power.Calls.{CallsOnce}
use Rattle.bz_sound.specs.Power.Laws.{PowerTellsWhatFollows}
use Rattle.bz_mark.specs.Times.{power_of, since_on}
use Rattle.bz_mark.specs.declared.power.Power.{Power}
use Rattle.bz_mark.specs.declared.power.Power.TheVariants as power

-- no descriptor is shown begun, and no slot stored into
pub record ShowsNothing (past : List Mark) : Type 0 where
  pub begun : (s : ℕ) → is_taken s past ≡ false
  pub stored : (c : Config) (k : ℕ) → is_stored_into c k past ≡ false

at-first : ShowsNothing []
at-first = record { begun = λ s. refl; stored = λ c k. refl }

-- a mark that is no store shows nothing more
same-shown : (past : List Mark) (mark : Mark) → ((s : ℕ) → is_taken s (mark ∷ past) ≡ is_taken s past) → ((c : Config) (k : ℕ) → is_stored_into c k (mark ∷ past) ≡ is_stored_into c k past) → ShowsNothing past → ShowsNothing (mark ∷ past)
same-shown past mark begun stored n = record { begun = λ s. begun s ∙ n.begun s; stored = λ c k. stored c k ∙ n.stored c k }

never-off : power.Off ≡ power.Recovering → ⊥
never-off e = absurd (cc e)

never-on : power.On ≡ power.Recovering → ⊥
never-on e = absurd (cc e)

pub shows-nothing : PowerTellsWhatFollows → (at_start : Power) (start : Map) (past : List Mark) → CallsOnce at_start start past → power_of at_start past ≡ power.Recovering → ShowsNothing (since_on past)
shows-nothing tells at_start start [] once is = at-first
shows-nothing tells at_start start (Cut ∷ past) once is = absurd (never-off is)
shows-nothing tells at_start start (On ∷ past) once is = at-first
shows-nothing tells at_start start (Ready ∷ past) once is = absurd (never-on is)
shows-nothing tells at_start start (Store zero a v ∷ past) once is = same-shown (since_on past) (Store 0 a v) (λ s. refl) (λ c k. refl) (shows-nothing tells at_start start past once.1 is)
shows-nothing tells at_start start (Store (suc w) a v ∷ past) once is =
    let on : power_of at_start past ≡ power.On = (tells at_start start past once.1).stays_open (suc w) once.0.opened once.0.is_open in
    absurd (never-on (sym on ∙ is))
shows-nothing tells at_start start (Load w a v ∷ past) once is = same-shown (since_on past) (Load w a v) (λ s. refl) (λ c k. refl) (shows-nothing tells at_start start past once.1 is)
shows-nothing tells at_start start (Cas w a old new found ∷ past) once is = same-shown (since_on past) (Cas w a old new found) (λ s. refl) (λ c k. refl) (shows-nothing tells at_start start past once.1 is)
shows-nothing tells at_start start (Ask w line ∷ past) once is = same-shown (since_on past) (Ask w line) (λ s. refl) (λ c k. refl) (shows-nothing tells at_start start past once.1 is)
shows-nothing tells at_start start (Fence w ∷ past) once is = same-shown (since_on past) (Fence w) (λ s. refl) (λ c k. refl) (shows-nothing tells at_start start past once.1 is)
shows-nothing tells at_start start (Evict a ∷ past) once is = same-shown (since_on past) (Evict a) (λ s. refl) (λ c k. refl) (shows-nothing tells at_start start past once.1 is)
shows-nothing tells at_start start (Begin w n call ∷ past) once is = same-shown (since_on past) (Begin w n call) (λ s. refl) (λ c k. refl) (shows-nothing tells at_start start past once.1 is)
shows-nothing tells at_start start (End w n reply at ∷ past) once is = same-shown (since_on past) (End w n reply at) (λ s. refl) (λ c k. refl) (shows-nothing tells at_start start past once.1 is)
shows-nothing tells at_start start (Effect w n ∷ past) once is = same-shown (since_on past) (Effect w n) (λ s. refl) (λ c k. refl) (shows-nothing tells at_start start past once.1 is)
