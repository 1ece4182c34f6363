-- A solitary get: what a mark is to it, and what it asks for.
use Rattle.std.proofs.Common.{◌≡◌, ◌≢◌, ℕ, suc, ◌+◌, ◌<◌, ◌≤◌, ◌==◌, true, false, List, ◌∷◌, arith, refl, sym, ap, subst, ◌∙◌, inl, inr, Option, Some, None}
use Rattle.std.specs.Prelude.{get_or}
use Rattle.std.proofs.lemmas.Bool.{cases_eq}
use Rattle.std.proofs.lemmas.Bool.Decides.{nat_tests}
use Rattle.bz_swap_acts.specs.declared.acted.Act.{Act}
use Rattle.bz_swap_acts.specs.declared.acted.Act.TheVariants as act
use Rattle.bz_solo.specs.FromAlone.Brief.{AllIdle, LooksFor}
use Rattle.bz_solo.specs.FromAlone.Quiet.{EffectsNeverFall}
use Rattle.bz_layout.specs.declared.config.Config.{Config}
use Rattle.bz_mark.specs.Log.{Log}
use Rattle.bz_mark.specs.declared.marks.Mark.{Mark}
use Rattle.bz_mark.specs.declared.marks.Mark.TheVariants as mark
use Rattle.bz_any_task.specs.LookingUp.{ForWay, ForKey, NoLook, look_of, IsReadOrEnd}
use Rattle.bz_any_task.specs.declared.running.AnyTask.{AnyTask}
use Rattle.bz_sound.specs.Calls.{Open, open_call}
use Rattle.bz_sound.specs.Solitary.{IsSolitary, acts_since, NoneIsOpenBesideASolitaryCall}
use Rattle.bz_sound.specs.Memory.Moments.{IsAfterFence}
use Rattle.bz_refinement.specs.Story.{Story, and_then}
use Rattle.bz_swap.specs.Starts.{started}
use Rattle.bz_swap.specs.SwapMemory.{SwapMemory, Doing, Idle, Reading, doing_of}
use Rattle.bz_task.specs.Instant.{Instant}
use Rattle.bz_task.specs.Steps.{IsHistory}
use Rattle.bz_task.specs.declared.path.Path.{Path}
use Rattle.bz_task.specs.declared.todo.Todo.{Todo}
use Rattle.bz_task.specs.declared.todo.Todo.TheVariants as todo
use Rattle.bz_world.specs.Inside.Kept.{IsAwake}
use Rattle.bz_world.specs.Inside.Solitary.{WhereSolitary, IsSolitaryGet, AsksBriefly, IsSolitaryIn}
use Rattle.bz_world.specs.Inside.Paid.{Stock, stock_of}
use Rattle.bz_world.specs.Inside.Serving.{IsServing, IsDoing, IsSlot}
use Rattle.bz_world.specs.WorldView.{mark_of}
use Rattle.bz_world.specs.declared.parts.Parts.{Parts}
use Rattle.bz_world.specs.declared.serving.OpenCall.{OpenCall}

-- an act begins no call
pub solitary-act : (v w : ℕ) (past : List Mark) (made : Act) → IsSolitary v (mark_of w made ∷ past) → IsSolitary v past
solitary-act v w past (act.Load a x) l = l
solitary-act v w past (act.Store a x) l = l
solitary-act v w past (act.Cas a old new found) l = l
solitary-act v w past (act.Ask line) l = l
solitary-act v w past act.Fence l = l

-- it is one more of its worker
pub acts-act : (w : ℕ) (past : List Mark) (made : Act) → acts_since w (mark_of w made ∷ past) ≡ acts_since w past + 1
acts-act w past (act.Load a x) = let t : (w == w) ≡ true = grind (arith, nat_tests) in rw t refl
acts-act w past (act.Store a x) = let t : (w == w) ≡ true = grind (arith, nat_tests) in rw t refl
acts-act w past (act.Cas a old new found) = let t : (w == w) ≡ true = grind (arith, nat_tests) in rw t refl
acts-act w past (act.Ask line) = let t : (w == w) ≡ true = grind (arith, nat_tests) in rw t refl
acts-act w past act.Fence = let t : (w == w) ≡ true = grind (arith, nat_tests) in rw t refl

-- none were made at the begin
pub acts-begin : (w n : ℕ) (past : List Mark) (called : _) → acts_since w (mark.Begin w n called ∷ past) ≡ 0
acts-begin w n past called = let t : (w == w) ≡ true = grind (arith, nat_tests) in rw t refl

-- a fence or an eviction begins no call either
pub solitary-flush : (v : ℕ) (m : Mark) (past : List Mark) → IsAfterFence (m ∷ past) → IsSolitary v (m ∷ past) → IsSolitary v past
solitary-flush v (mark.Ask u line) past f l = l
solitary-flush v (mark.Fence u) past f l = l
solitary-flush v (mark.Evict a) past f l = l
solitary-flush v (mark.Begin u n c) past f l = absurd f
solitary-flush v (mark.End u n r a) past f l = absurd f
solitary-flush v (mark.Load u a x) past f l = absurd f
solitary-flush v (mark.Store u a x) past f l = absurd f
solitary-flush v (mark.Cas u a o n x) past f l = absurd f
solitary-flush v (mark.Effect u n) past f l = absurd f
solitary-flush v mark.Cut past f l = absurd f
solitary-flush v mark.On past f l = absurd f
solitary-flush v mark.Ready past f l = absurd f

-- where no swap takes effect at the next moment, none took effect since the begin
pub now-is : (at : ℕ → Instant) (n : ℕ) (y : Instant) → and_then at n y (suc n) ≡ y
now-is at n y = let t : (suc n == suc n) ≡ true = grind (arith, nat_tests) in rw t refl

pub before-is : (at : ℕ → Instant) (n m : ℕ) (y : Instant) → m ≤ n → and_then at n y m ≡ at m
before-is at n m y l = let t : (m == suc n) ≡ false = grind (arith, nat_tests) in rw t refl

pub undisturbed-on : (at : ℕ → Instant) (n begun : ℕ) (y : Instant) → begun < n → y.effects ≡ (at n).effects → (at n).effects ≡ (at (suc begun)).effects → (and_then at n y (suc n)).effects ≡ (and_then at n y (suc begun)).effects
undisturbed-on at n begun y l same was = ap (λ (z : Instant). z.effects) (now-is at n y) ∙ (same ∙ (was ∙ sym (ap (λ (z : Instant). z.effects) (before-is at n (suc begun) y (omega (arith, l))))))

-- nor since its look-up began, which was after that
pub undisturbed-since : EffectsNeverFall → (c : Config) (at : ℕ → Instant) (first last begun since : ℕ) → IsHistory c at first last → first ≤ begun → begun < since → since ≤ last → (at last).effects ≡ (at (suc begun)).effects → (at last).effects ≡ (at since).effects
undisturbed-since fall c at first last begun since history from after now same =
    let earlier : (at (suc begun)).effects ≤ (at since).effects = fall c at first last (suc begun) since history (record { since = omega (arith, from); order = omega (arith, after); until = now }) in
    let later : (at since).effects ≤ (at last).effects = fall c at first last since last history (record { since = omega (arith, from, after); order = now; until = omega arith }) in
    omega (arith, earlier, later, same)

-- its task looks for something
pub looks-some : (key : List ℕ) (way : Option Path) (t : AnyTask) → LooksFor key way t → look_of t ≢ NoLook
looks-some key None t l e = let q : ForWay ≡ NoLook = sym l ∙ e in cc q
looks-some key (Some path) t l e = let q : ForKey ≡ NoLook = sym l.0 ∙ e in cc q

-- so its worker reads
pub record DoesRead (m : SwapMemory) (w : ℕ) : Type 0 where
  pub address : ℕ
  pub reads : doing_of m w ≡ Reading address

does-read : (m : SwapMemory) (owners : List ℕ) (w : ℕ) (asked : Todo) → IsDoing m owners w asked → IsReadOrEnd asked → DoesRead m w
does-read m owners w (todo.Read a) d r = record { address = a; reads = d }
does-read m owners w (todo.Load a) d r = absurd d
does-read m owners w (todo.Store a v) d r = absurd r
does-read m owners w (todo.Flush line) d r = absurd r
does-read m owners w (todo.Swap entries) d r = absurd r
does-read m owners w todo.Finish d r = absurd d

pub solitary-reads : (c : Config) (m : SwapMemory) (log : Log) (story : Story) (owners : List ℕ) (stock : Stock) (w : ℕ) (x : OpenCall) (opened : Open) (key : List ℕ) → IsServing c m log story owners stock w x → IsSolitaryGet m log.past story w x opened key → DoesRead m w
solitary-reads c m log story owners stock w x opened key s g = does-read m owners w s.asked s.doing (g.looks.asks s.asked (looks-some key x.path x.task g.brief.looks) s.asks)

-- what is known of the call in a place is known of the one there
pub in-place : (m : SwapMemory) (past : List Mark) (story : Story) (items : List (Option OpenCall)) (w : ℕ) (x : OpenCall) (its : Open) → get_or items w None ≡ Some x → open_call w past ≡ Some its → WhereSolitary past w x.call (IsSolitaryGet m past story w x its) → IsSolitaryIn m past story items w
in-place m past story items w x its is-x is-its holds y opened is-y is-open =
    let both : Some x ≡ Some y = sym is-x ∙ is-y in
    let calls : Some its ≡ Some opened = sym is-its ∙ is-open in
    let same : x ≡ y = cc both in
    let call : its ≡ opened = cc calls in
    subst (λ (z : OpenCall). WhereSolitary past w z.call (IsSolitaryGet m past story w z opened)) same (subst (λ (o : Open). WhereSolitary past w x.call (IsSolitaryGet m past story w x o)) call holds)

-- beside an open call there is no such get
pub only-own : NoneIsOpenBesideASolitaryCall → (m : SwapMemory) (past : List Mark) (story : Story) (items : List (Option OpenCall)) (w : ℕ) (its : Open) → open_call w past ≡ Some its → IsSolitaryIn m past story items w → (v : ℕ) → IsSolitaryIn m past story items v
only-own alone m past story items w its is-open own v = elim (cases_eq v w) [
  | inl e ↦ subst (IsSolitaryIn m past story items) (sym e) own
  | inr ne ↦ λ x opened is call key get solitary. absurd (let never : None ≡ Some its = sym (alone v w past solitary (λ e. ne (sym e))) ∙ is-open in cc never)
]

-- no table without a call has one
pub none-in : (m : SwapMemory) (past : List Mark) (story : Story) (items : List (Option OpenCall)) (w : ℕ) → get_or items w None ≡ None → IsSolitaryIn m past story items w
none-in m past story items w none x opened is call key get solitary = absurd (let never : None ≡ Some x = sym none ∙ is in cc never)

-- what it asks for is started
pub started-solitary : (m : SwapMemory) (past : List Mark) (story : Story) (owners : List ℕ) (w : ℕ) (x : OpenCall) (opened : Open) (key : List ℕ) (doing : Doing) (asked : Todo) → AsksBriefly m past story w x opened key asked
    → IsDoing (started m w doing) owners w asked → doing_of (started m w doing) w ≡ doing → IsSolitaryGet (started m w doing) past story w x opened key
started-solitary m past story owners w x opened key doing (todo.Read a) g d starts = subst (λ z. IsSolitaryGet (started m w z) past story w x opened key) (sym d ∙ starts) g
started-solitary m past story owners w x opened key doing (todo.Load a) g d starts = absurd g
started-solitary m past story owners w x opened key doing (todo.Store a v) g d starts = absurd g
started-solitary m past story owners w x opened key doing (todo.Flush line) g d starts = absurd g
started-solitary m past story owners w x opened key doing (todo.Swap entries) g d starts = absurd g
started-solitary m past story owners w x opened key doing todo.Finish g d starts = absurd d

-- where no call is open nobody does anything
idle-in : (c : Config) (m : SwapMemory) (log : Log) (story : Story) (owners : List ℕ) (stock : Stock) (v : ℕ) (slot : Option OpenCall) → IsSlot c m log story owners stock v slot → open_call v log.past ≡ None → doing_of m v ≡ Idle
idle-in c m log story owners stock v None rest none = rest.idle
idle-in c m log story owners stock v (Some x) s none = absurd (let never : None ≡ Some s.opened = sym none ∙ s.call_open.is_open in cc never)

pub all-idle : (p : Parts) → IsAwake p → ((v : ℕ) → open_call v p.journal.past ≡ None) → AllIdle p.access
all-idle p k none v = idle-in p.config p.access p.journal k.story p.owners.items (stock_of p) v (get_or p.workers.items v None) (k.workers v) (none v)
