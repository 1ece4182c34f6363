-- A step of a merge of two inner nodes: what is asked for next is there, and is as the contract of a task says.
use Rattle.std.proofs.Common.{◌≡◌, ◌≢◌, ℕ, ◌+◌, ◌<◌, ◌≤◌, ◌⊎◌, true, false, [], arith, refl, sym, ap, subst, ◌∙◌, inl, inr}
use Rattle.std.specs.Prelude.{Some, None}
use Rattle.std.proofs.lemmas.Bool.{true≢false}
use Rattle.bz_call.specs.declared.replies.Spent.{Spent}
use Rattle.bz_call.specs.declared.replies.Spent.TheVariants.{Nodes as NoNodes, Swaps as NoSwaps}
use Rattle.bz_layout.specs.Config.{IsConfig}
use Rattle.bz_layout.specs.Slots.{FreeSlots}
use Rattle.bz_layout.specs.declared.config.Config.{Config}
use Rattle.bz_layout.specs.declared.thresholds.TheConstants.{MERGE_SLOTS}
use Rattle.bz_task.specs.Basis.{Basis}
use Rattle.bz_task.specs.Contract.{MayHear, GoesOn, Learns}
use Rattle.bz_task.specs.Requests.{Tells, steps_in, swaps_in}
use Rattle.bz_task.specs.Scene.{Scene, Stage, Waiting, Took, IsScene}
use Rattle.bz_task.specs.declared.path.Link.{Link}
use Rattle.bz_task.specs.declared.todo.Outcome.{Outcome}
use Rattle.bz_task.specs.declared.todo.Outcome.TheVariants.{Done as IsDone, Restart as Restarts, NeedsRoom, Full as IsFull}
use Rattle.bz_task.specs.declared.todo.Seen.{Seen}
use Rattle.bz_task.specs.declared.todo.Seen.TheVariants.{Start, Read as Was}
use Rattle.bz_task.specs.declared.todo.Todo.{Todo}
use Rattle.bz_writer.specs.Facts.{write_asks, write_ready, write_view}
use Rattle.bz_writer.specs.declared.phase.WritePhase.{WritePhase}
use Rattle.bz_writer.specs.declared.phase.WritePhase.TheVariants.{Fresh as Unbegun}
use Rattle.bz_inner.specs.JoinDuties.{view_joining}
use Rattle.bz_inner.specs.JoinFacts.{HasBegun, joining_asks, joining_begins, joining_differs, joining_end, joining_facts, joining_left, joining_means, joining_needs, joining_plan, joining_ready, joining_swaps}
use Rattle.bz_inner.specs.Joinings.{Joining, IsReadingAbove}
use Rattle.bz_inner.specs.declared.join_phase.JoinPhase.{JoinPhase}
use Rattle.bz_inner.specs.declared.join_phase.JoinPhase.TheVariants.{Fresh, Pointer, Above, NoRoom, Writing}
use Rattle.bz_inner.proofs.JoinReading.{link-slot}
use Rattle.bz_inner.proofs.JoinStaying.{no-slot}

pub record Steps (c : Config) (r q : Joining) (o p : JoinPhase) (seen : Seen) (moment : ℕ) (old new : FreeSlots) : Type 0 where
  pub known : IsConfig c
  pub begun : p ≢ Fresh
  pub ready : joining_ready c q p
  pub goes : (todo : Todo) → joining_asks c q p ≡ Some todo → GoesOn (view_joining c r o) (view_joining c q p) seen old new todo
  pub learns : Learns (view_joining c r o) (view_joining c q p) seen moment old new

-- how a phase after a load ends, if it does
abbrev pub EndsSo : Joining → JoinPhase → JoinPhase → ℕ → Type 0
EndsSo r o p v = (joining_end p ≡ None) ⊎ ((joining_end p ≡ Some NeedsRoom) ⊎ ((joining_end p ≡ Some Restarts) × joining_differs r o (Was v)))

-- what is so of a phase that loads and the next one
pub record ReadsOn (c : Config) (r q : Joining) (o p : JoinPhase) (v : ℕ) : Type 0 where
  pub nearer : joining_left p + 1 ≤ joining_left o
  pub one : joining_swaps o ≡ 1
  pub asks : swaps_in (joining_asks c r o) ≡ 0
  pub few : joining_swaps p ≤ 1
  pub slots : joining_needs p ≤ joining_needs o
  pub step : steps_in (joining_asks c q p) ≡ 1
  pub ends : EndsSo r o p v
  pub upper : q.upper ≡ r.upper
  pub middle : q.middle ≡ r.middle
  pub lower : q.lower ≡ r.lower

not-done : (r : Joining) (o p : JoinPhase) (v : ℕ) → EndsSo r o p v → joining_end p ≡ Some IsDone → ⊥
not-done r o p v (inl n) e = let h = sym n ∙ e in absurd (cc)
not-done r o p v (inr (inl n)) e = let h = sym n ∙ e in absurd (cc)
not-done r o p v (inr (inr n)) e = let h = sym n.0 ∙ e in absurd (cc)

not-full : (r : Joining) (o p : JoinPhase) (v : ℕ) (spent : Spent) → EndsSo r o p v → joining_end p ≡ Some (IsFull spent) → ⊥
not-full r o p v spent (inl n) e = let h = sym n ∙ e in absurd (cc)
not-full r o p v spent (inr (inl n)) e = let h = sym n ∙ e in absurd (cc)
not-full r o p v spent (inr (inr n)) e = let h = sym n.0 ∙ e in absurd (cc)

has-differed : (r : Joining) (o p : JoinPhase) (v : ℕ) → EndsSo r o p v → joining_end p ≡ Some Restarts → joining_differs r o (Was v)
has-differed r o p v (inl n) e = absurd (let h = sym n ∙ e in cc)
has-differed r o p v (inr (inl n)) e = absurd (let h = sym n ∙ e in cc)
has-differed r o p v (inr (inr n)) e = n.1

abbrev basis_of : Link → Basis
basis_of link = record { slot = link.slot; nodes = [] }

same-means : (r q : Joining) (outcome : Outcome) (s : Scene) → q.upper ≡ r.upper → q.middle ≡ r.middle → q.lower ≡ r.lower → joining_means q.upper q.middle q.lower outcome s → joining_means r.upper r.middle r.lower outcome s
same-means r q outcome s u m l h =
    subst (λ (z : Link). joining_means z r.middle r.lower outcome s) u
    (subst (λ (z : Link). joining_means q.upper z r.lower outcome s) m
    (subst (λ (z : Link). joining_means q.upper q.middle z outcome s) l h))

pub goes-read : (c : Config) (r q : Joining) (o p : JoinPhase) (v : ℕ) (free : FreeSlots) → ReadsOn c r q o p v → (todo : Todo) → joining_asks c q p ≡ Some todo → GoesOn (view_joining c r o) (view_joining c q p) (Was v) free free todo
goes-read c r q o p v free t todo asked = record {
  asked = asked;
  nearer = omega (arith, t.nearer, t.step);
  fewer = omega (arith, t.few, t.one, t.asks);
  counted = λ e. refl;
  config = refl;
  change = refl;
  basis = ap basis_of t.upper;
  meant = λ outcome s m. same-means r q outcome s t.upper t.middle t.lower m;
  slots = inr (record { fewer = t.slots; slots = refl });
  kept = λ outcome e. refl;
  begins = λ outcome s e. absurd (cc);
  last = λ e one. absurd (cc);
  only_last = λ e. t.one;
  done = λ e. absurd (not-done r o p v t.ends e);
  published = λ e. absurd (true≢false (sym e));
  restart = λ e. inr (has-differed r o p v t.ends e);
  no_swap = λ e. absurd (cc);
  full_swaps = λ e. absurd (not-full r o p v NoSwaps t.ends e);
  full_nodes = λ e. absurd (not-full r o p v NoNodes t.ends e);
}

goes-begun : (c : Config) (r : Joining) (p : JoinPhase) (free : FreeSlots) → joining_left p + 1 ≤ joining_left Fresh → joining_swaps p ≤ 1 → joining_needs p ≤ MERGE_SLOTS → steps_in (joining_asks c r p) ≡ 1 → joining_end p ≡ None → (todo : Todo) → joining_asks c r p ≡ Some todo
    → GoesOn (view_joining c r Fresh) (view_joining c r p) Start free free todo
goes-begun c r p free nearer few slots step none todo asked = record {
  asked = asked;
  nearer = omega (arith, nearer, step);
  fewer = omega (arith, few);
  counted = λ e. refl;
  config = refl;
  change = refl;
  basis = refl;
  meant = λ outcome s m. m;
  slots = inr (record { fewer = slots; slots = refl });
  kept = λ outcome e. refl;
  begins = λ outcome s e. absurd (let h = sym none ∙ e in cc);
  last = λ e one. absurd (cc);
  only_last = λ e. refl;
  done = λ e. absurd (let h = sym none ∙ e in cc);
  published = λ e. absurd (true≢false (sym e));
  restart = λ e. absurd (let h = sym none ∙ e in cc);
  no_swap = λ e. absurd (cc);
  full_swaps = λ e. absurd (let h = sym none ∙ e in cc);
  full_nodes = λ e. absurd (let h = sym none ∙ e in cc);
}

pub config-known : (c : Config) (r : Joining) (o : JoinPhase) (seen : Seen) (moment : ℕ) (free : FreeSlots) → MayHear (view_joining c r o) seen moment free → IsConfig c
config-known c r o seen moment free may = subst IsConfig may.known.config may.known.good.config

-- told to begin
begun-facts : (c : Config) (r : Joining) (stage : Stage) (s : Scene) → r.small ≡ true → joining_facts r Fresh stage s → Tells (joining_asks c r Fresh) stage Start s → joining_facts r (Above 1) Waiting s
begun-facts c r Waiting s small f t = (t, (omega arith, (omega arith, subst (λ z. joining_begins z r s.past) small f)))
begun-facts c r Took s small f t = absurd (f)

other-facts : (c : Config) (r : Joining) (stage : Stage) (s : Scene) → r.small ≡ false → joining_facts r Fresh stage s → Tells (joining_asks c r Fresh) stage Start s → joining_facts r Pointer Waiting s
other-facts c r Waiting s small f t = (t, subst (λ z. joining_begins z r s.past) small f)
other-facts c r Took s small f t = absurd (f)

begun-slot : (c : Config) (r : Joining) (stage : Stage) (s : Scene) → s.past.config ≡ c → IsScene s → r.small ≡ true → joining_facts r Fresh stage s → r.upper.slot < c.nodes
begun-slot c r Waiting s same good small f = let v : IsReadingAbove r 1 s.past = subst (λ z. joining_begins z r s.past) small f in subst (λ (z : Config). r.upper.slot < z.nodes) same (link-slot s r.upper.slot r.middle good v.links.parent)
begun-slot c r Took s same good small f = absurd (f)

steps-begun-at : (c : Config) (r : Joining) (p : JoinPhase) (seen : Seen) (moment : ℕ) (free : FreeSlots) → MayHear (view_joining c r Fresh) seen moment free → HasBegun r p → Steps c r r Fresh p seen moment free free
steps-begun-at c r (Above i) Start moment free may h = subst (λ z. Steps c r r Fresh (Above z) Start moment free free) (sym h.0) (record {
  known = config-known c r Fresh Start moment free may;
  begun = λ e. absurd (cc);
  ready = (begun-slot c r may.known.stage may.known.scene may.known.config may.known.good h.1 may.known.holds, omega arith);
  goes = goes-begun c r (Above 1) free (omega arith) (omega arith) (omega arith) refl refl;
  learns = λ stage s now same good unreached f t. no-slot r s free (Above 1) (begun-facts c r stage s h.1 f t);
})
steps-begun-at c r Pointer Start moment free may h = record {
  known = config-known c r Fresh Start moment free may;
  begun = λ e. absurd (cc);
  ready = tt;
  goes = goes-begun c r Pointer free (omega arith) (omega arith) (omega arith) refl refl;
  learns = λ stage s now same good unreached f t. no-slot r s free Pointer (other-facts c r stage s h f t);
}
steps-begun-at c r p Start moment free may h = absurd (h)
steps-begun-at c r p seen moment free may h = absurd (may.hears)

pub steps-begun : (c : Config) (r : Joining) (o p : JoinPhase) (seen : Seen) (moment : ℕ) (free : FreeSlots) → o ≡ Fresh → MayHear (view_joining c r o) seen moment free → HasBegun r p → Steps c r r o p seen moment free free
steps-begun c r o p seen moment free is may h = subst (λ z. Steps c r r z p seen moment free free) (sym is) (steps-begun-at c r p seen moment free (subst (λ z. MayHear (view_joining c r z) seen moment free) is may) h)

-- the root pointer was looked at, where there is nothing to merge
pointer-facts : (c : Config) (r : Joining) (v : ℕ) (stage : Stage) (s : Scene) → joining_facts r Pointer stage s → Tells (joining_asks c r Pointer) stage (Was v) s → joining_facts r NoRoom Waiting s
pointer-facts c r v Waiting s f t = (f.0, inl f.1)
pointer-facts c r v Took s f t = absurd (f)

steps-pointer-at : (c : Config) (r : Joining) (seen : Seen) (moment : ℕ) (free : FreeSlots) → MayHear (view_joining c r Pointer) seen moment free → Steps c r r Pointer NoRoom seen moment free free
steps-pointer-at c r (Was v) moment free may = record {
  known = config-known c r Pointer (Was v) moment free may;
  begun = λ e. absurd (cc);
  ready = tt;
  goes = goes-read c r r Pointer NoRoom v free (record { nearer = omega arith; one = refl; asks = refl; few = omega arith; slots = omega arith; step = refl; ends = inr (inl refl); upper = refl; middle = refl; lower = refl });
  learns = λ stage s now same good unreached f t. no-slot r s free NoRoom (pointer-facts c r v stage s f t);
}
steps-pointer-at c r seen moment free may = absurd (may.hears)

pub steps-pointer : (c : Config) (r : Joining) (o : JoinPhase) (seen : Seen) (moment : ℕ) (free : FreeSlots) → o ≡ Pointer → MayHear (view_joining c r o) seen moment free → Steps c r r o NoRoom seen moment free free
steps-pointer c r o seen moment free is may = subst (λ z. Steps c r r z NoRoom seen moment free free) (sym is) (steps-pointer-at c r seen moment free (subst (λ z. MayHear (view_joining c r z) seen moment free) is may))

-- the writing goes on as the writer does
pub goes-writing : (c d : Config) (r q : Joining) (w z : WritePhase) (seen : Seen) (free left : FreeSlots) (todo : Todo) → q.upper ≡ r.upper → q.middle ≡ r.middle → q.lower ≡ r.lower → GoesOn (write_view c (joining_plan r) w) (write_view d (joining_plan q) z) seen free left todo
    → GoesOn (view_joining c r (Writing w)) (view_joining d q (Writing z)) seen free left todo
goes-writing c d r q w z seen free left todo u m l g = record {
  asked = g.asked;
  nearer = g.nearer;
  fewer = g.fewer;
  counted = g.counted;
  config = g.config;
  change = refl;
  basis = g.basis;
  meant = λ outcome s h. same-means r q outcome s u m l h;
  slots = g.slots;
  kept = g.kept;
  begins = g.begins;
  last = g.last;
  only_last = g.only_last;
  done = g.done;
  published = λ e. absurd (true≢false (sym e));
  restart = g.restart;
  no_swap = g.no_swap;
  full_swaps = g.full_swaps;
  full_nodes = g.full_nodes;
}

-- what it hears then
pub writing-hears : (c : Config) (r : Joining) (o : JoinPhase) (w : WritePhase) (seen : Seen) (moment : ℕ) (free : FreeSlots) → o ≡ Writing w → MayHear (view_joining c r o) seen moment free → MayHear (write_view c (joining_plan r) w) seen moment free
writing-hears c r o w seen moment free is may =
    let m : MayHear (view_joining c r (Writing w)) seen moment free = subst (λ z. MayHear (view_joining c r z) seen moment free) is may in
    let k = m.known in
    record {
      hears = m.hears;
      known = record { stage = k.stage; scene = k.scene; config = k.config; now = k.now; good = k.good; holds = k.holds; tells = k.tells };
      memory = m.memory;
    }

pub record Writes (c d : Config) (r q : Joining) (o p : JoinPhase) (seen : Seen) (moment : ℕ) (old new : FreeSlots) : Type 0 where
  pub begun : p ≢ Fresh
  pub ready : joining_ready d q p
  pub goes : (todo : Todo) → joining_asks d q p ≡ Some todo → GoesOn (view_joining c r o) (view_joining d q p) seen old new todo
  pub learns : Learns (view_joining c r o) (view_joining d q p) seen moment old new

writing-at : (c d : Config) (r q : Joining) (w z : WritePhase) (seen : Seen) (moment : ℕ) (old new : FreeSlots) → d ≡ c → q.upper ≡ r.upper → q.middle ≡ r.middle → q.lower ≡ r.lower → z ≢ Unbegun → write_ready d (joining_plan q) z
    → ((todo : Todo) → write_asks d (joining_plan q) z ≡ Some todo → GoesOn (write_view c (joining_plan r) w) (write_view d (joining_plan q) z) seen old new todo) → Learns (write_view c (joining_plan r) w) (write_view d (joining_plan q) z) seen moment old new
    → Writes c d r q (Writing w) (Writing z) seen moment old new
writing-at c d r q w z seen moment old new same u m l begun ready goes learns = record {
  begun = λ e. absurd (cc);
  ready = (begun, ready);
  goes = λ todo asked. goes-writing c d r q w z seen old new todo u m l (goes todo asked);
  learns = λ stage s now config good unreached f t. learns stage s now config good unreached f t;
}

pub steps-writing : (c d : Config) (r q : Joining) (o : JoinPhase) (w z : WritePhase) (seen : Seen) (moment : ℕ) (old new : FreeSlots) → o ≡ Writing w → d ≡ c → q.upper ≡ r.upper → q.middle ≡ r.middle → q.lower ≡ r.lower → z ≢ Unbegun → write_ready d (joining_plan q) z
    → ((todo : Todo) → write_asks d (joining_plan q) z ≡ Some todo → GoesOn (write_view c (joining_plan r) w) (write_view d (joining_plan q) z) seen old new todo) → Learns (write_view c (joining_plan r) w) (write_view d (joining_plan q) z) seen moment old new
    → Writes c d r q o (Writing z) seen moment old new
steps-writing c d r q o w z seen moment old new is same u m l begun ready goes learns =
    subst (λ (x : JoinPhase). Writes c d r q x (Writing z) seen moment old new) (sym is) (writing-at c d r q w z seen moment old new same u m l begun ready goes learns)
