use Rattle.std.proofs.Common.{◌≡◌, true, ◌<◌, ℕ, slice_index, slice_set, sym, ap, subst, ◌∙◌, refl, arith, inl, Some}
use Rattle.bz_task.specs.Requests.{Answers, Hears, Tells, swaps_in}
use Rattle.bz_layout.specs.Config.{IsConfig}
use Rattle.bz_layout.specs.declared.sizes.TheConstants.{NODE_WORDS}
use Rattle.bz_layout.specs.declared.thresholds.TheConstants.{SPLIT_SLOTS}
use Rattle.bz_task.specs.OwnActs.{AreTakenFrom, gained}
use Rattle.bz_task.specs.Scene.{Scene, Stage, Waiting}
use Rattle.bz_task.specs.declared.todo.Seen.{Seen}
use Rattle.bz_task.specs.declared.todo.Seen.TheVariants.{Start, Read as Was, Swapped}
use Rattle.bz_task.specs.declared.todo.Todo.TheVariants.{Read as Reads}
use Rattle.bz_below.specs.Duties.{below_of, asks_below, three}
use Rattle.bz_below.specs.Facts.{Below, below_facts, below_asks, below_needs, below_left, below_swaps, word_after, IsReadyBelow, below_end}
use Rattle.bz_below.specs.declared.phase.BelowPhase.{BelowPhase}
use Rattle.bz_below.specs.declared.phase.BelowPhase.TheVariants.{Fresh, Room, Word, Again, Guard, Named}
use Rattle.bz_below.specs.declared.split_below.SplitBelow.{SplitBelow}
use Rattle.bz_below.proofs.Beginning.{heard-in, begins-fresh}
use Rattle.bz_below.proofs.Counting.{Counts, counts}
use Rattle.bz_below.proofs.Ending.{EndsWell, ends-well, first-ends, takes-none, word-answers}
use Rattle.bz_below.proofs.Opening.{Opens, opens, opened-learns, found}
use Rattle.bz_below.proofs.Telling.{Tolds, tolds, told-learns}
use Rattle.bz_below.proofs.Looking.{Looks, looks, looked-learns, guard-within, planned-parent, planned-room, looked-kept}
use Rattle.bz_below.proofs.Naming.{Names, IsNamedPhase, named-of, names, named-learns}
use Rattle.bz_below.proofs.Reading.{Words, word-within, words-on, fresh-known, word-known, word-ready}
use Rattle.bz_below.proofs.Staying.{no-slot}
use Rattle.bz_below.proofs.split_below.SplitBelow.step.Goals as goal

-- the task with one word more
abbrev kept-of : SplitBelow → ℕ → ℕ → Below
kept-of t i v = record { upper = t.upper; lower = t.lower; slot = slice_index t.slots; image = three t.parent.0 t.halves.left.0 t.halves.right.0; read = slice_set t.read.0 i v; sep = t.halves.separator; guard = t.guard }

pub read_or_end-requires : goal.read_or_end-requires
read_or_end-requires c =
    let t = c.args.self.now in
    let k = c.requires.known in
    record { plain = λ e. (found t.config (below_of t) c.args.seen k.stage k.scene (subst (λ z. Tells (below_asks t.config (below_of t) z) k.stage c.args.seen k.scene) c.in-Room.is k.tells) e).plain }

-- the word of the upper guard that was found
found-guard : (t : SplitBelow) (phase : BelowPhase) (seen : Seen) (v : ℕ) (stage : Stage) (s : Scene) → t.phase ≡ phase → below_asks t.config (below_of t) phase ≡ Some (Reads t.upper.guard) → ((w : ℕ) → seen ≡ Was w → v ≡ w) → Tells (asks_below t) stage seen s → (seen ≡ Was v) × Answers s t.upper.guard v
found-guard t phase seen v stage s is asks found tells = word-answers t.upper.guard v seen stage s found (subst (λ z. Tells z stage seen s) (ap (below_asks t.config (below_of t)) is ∙ asks) tells)

pub look-requires : goal.look-requires
look-requires c =
    let t = c.args.self.now in
    let k = c.requires.known in
    let f = subst (λ z. below_facts (below_of t) z k.stage k.scene) c.in-Guard.is k.holds in
    record {
      plain = (found-guard t Guard c.args.seen c.word_in-in-Guard.result k.stage k.scene c.in-Guard.is refl c.word_in-in-Guard.ensures k.tells).1.plain;
      parent = planned-parent t.config (below_of t) k.stage k.scene k.config f;
      room = planned-room (below_of t) k.stage k.scene f;
    }

pub returns-in-Again : goal.returns-in-Again
returns-in-Again c =
    let t = c.args.self.now in
    let k = c.requires.known in
    let hears : Hears (below_asks t.config (below_of t) Again) c.args.seen = subst (λ z. Hears (below_asks t.config (below_of t) z) c.args.seen) c.in-Again.is c.requires.hears in
    let b : Tolds (below_of t) t.config c.args.seen c.told-self.result c.args.slots.now = tolds (below_of t) t.config c.args.seen c.told-self.result c.args.slots.now hears c.told-self.ensures in
    let needed : below_needs t.phase ≡ SPLIT_SLOTS = ap below_needs c.in-Again.is in
    let ends : EndsWell t.lower c.args.seen t.phase c.told-self.result c.args.slots.now = subst (λ z. EndsWell t.lower c.args.seen z c.told-self.result c.args.slots.now) (sym c.in-Again.is) b.ends in
    let m : Counts t.config (below_of t) t.phase c.told-self.result c.args.seen = counts t.config (below_of t) t.phase c.told-self.result c.args.seen (ap below_swaps c.in-Again.is) (ap (λ z. swaps_in (below_asks t.config (below_of t) z)) c.in-Again.is) c.requires.hears in
    record {
      config = refl;
      upper = refl;
      lower = refl;
      halves = refl;
      known = subst IsConfig k.config k.good.config;
      begun = b.begun;
      ready = b.ready;
      nearer = omega (arith, b.nearer, ap below_left c.in-Again.is);
      fewer = m.fewer;
      counted = λ z. m.counted;
      slots = subst (λ z. AreTakenFrom z (below_needs c.told-self.result) c.args.slots.now c.args.slots.now) (sym needed) b.taken;
      kept = λ outcome q. refl;
      begins = λ q. absurd (heard-in t.config (below_of t) t.phase Again c.args.seen Start c.in-Again.is q c.requires.hears);
      done = ends.done;
      last = λ q. absurd (heard-in t.config (below_of t) t.phase Again c.args.seen (Swapped true) c.in-Again.is q c.requires.hears);
      restart = ends.restart;
      no_swap = ends.no_swap;
      full_swaps = ends.full_swaps;
      full_nodes = ends.full_nodes;
      learns = λ stage s same good free facts tells. no-slot c.nothing_is_gained.ensures (below_of t) s c.args.slots.now c.told-self.result
          (told-learns c.read_parents_were.ensures c.read_nodes_have_children.ensures t.config (below_of t) c.told-self.result c.args.seen stage s c.told-self.ensures good
          (subst (λ z. below_facts (below_of t) z stage s) c.in-Again.is facts)
          (subst (λ z. Tells (below_asks t.config (below_of t) z) stage c.args.seen s) c.in-Again.is tells));
    }

pub returns-in-Guard : goal.returns-in-Guard
returns-in-Guard c =
    let t = c.args.self.now in
    let new = c.look.new.self in
    let left = c.look.new.slots in
    let k = c.requires.known in
    let e = c.look.ensures in
    let needed : below_needs t.phase ≡ SPLIT_SLOTS = ap below_needs c.in-Guard.is in
    let nodes : c.args.slots.now.nodes ≡ t.config.nodes = c.requires.memory (omega (arith, needed)) in
    let found = found-guard t Guard c.args.seen c.word_in-in-Guard.result k.stage k.scene c.in-Guard.is refl c.word_in-in-Guard.ensures k.tells in
    let known = subst (λ z. below_facts (below_of t) z k.stage k.scene) c.in-Guard.is k.holds in
    let within : new.upper.slot < new.config.nodes = subst (λ z. z.slot < new.config.nodes) (sym e.upper) (subst (λ z. t.upper.slot < z.nodes) (sym e.config) (guard-within t.config (below_of t) k.stage k.scene k.config k.good known)) in
    let b : Looks t.waits new.waits (below_of new) new.config c.args.seen new.phase c.args.slots.now left = looks t.config.nodes t.left t.waits new.waits t.read.0 (below_of new) new.config c.word_in-in-Guard.result c.args.seen new.phase c.args.slots.now left within
    found.0 e.looked (nodes ∙ ap (λ z. z.nodes) (sym e.config)) in
    let ends : EndsWell t.lower c.args.seen t.phase new.phase c.args.slots.now = subst (λ z. EndsWell t.lower c.args.seen z new.phase c.args.slots.now) (sym c.in-Guard.is)
    (subst (λ z. EndsWell z c.args.seen Guard new.phase c.args.slots.now) e.lower b.ends) in
    let m : Counts t.config (below_of t) t.phase new.phase c.args.seen = counts t.config (below_of t) t.phase new.phase c.args.seen (ap below_swaps c.in-Guard.is) (ap (λ z. swaps_in (below_asks t.config (below_of t) z)) c.in-Guard.is) c.requires.hears in
    record {
      config = e.config;
      upper = e.upper;
      lower = e.lower;
      halves = e.halves;
      known = subst IsConfig (k.config ∙ sym e.config) k.good.config;
      begun = b.begun;
      ready = b.ready;
      nearer = omega (arith, b.nearer, ap below_left c.in-Guard.is);
      fewer = m.fewer;
      counted = λ z. m.counted;
      slots = subst (λ z. AreTakenFrom z (below_needs new.phase) c.args.slots.now left) (sym needed) b.taken;
      kept = λ outcome q. looked-kept t.config.nodes t.left t.waits new.waits t.read.0 (below_of new) c.word_in-in-Guard.result new.phase c.args.slots.now left outcome e.looked q;
      begins = λ q. absurd (heard-in t.config (below_of t) t.phase Guard c.args.seen Start c.in-Guard.is q c.requires.hears);
      done = ends.done;
      last = λ q. absurd (heard-in t.config (below_of t) t.phase Guard c.args.seen (Swapped true) c.in-Guard.is q c.requires.hears);
      restart = ends.restart;
      no_swap = ends.no_swap;
      full_swaps = ends.full_swaps;
      full_nodes = ends.full_nodes;
      learns = λ stage s same good free facts tells. looked-learns c.slots_apart.ensures c.children_may_be_parted.ensures c.read_nodes_have_children.ensures c.links_stand_on.ensures.leave c.nothing_is_gained.ensures t.config t.left t.waits new.waits (below_of t) (below_of new) new.phase c.word_in-in-Guard.result c.args.slots.now left
          (record { upper = e.upper; lower = e.lower; left = ap (λ z. z.left.0) e.halves; right = ap (λ z. z.right.0) e.halves; sep = ap (λ z. z.separator) e.halves }) e.looked nodes stage s same good (free (omega (arith, needed)))
          (subst (λ z. below_facts (below_of t) z stage s) c.in-Guard.is facts)
          (found-guard t Guard c.args.seen c.word_in-in-Guard.result stage s c.in-Guard.is refl c.word_in-in-Guard.ensures tells).1;
    }

pub named-self-requires : goal.named-self-requires
named-self-requires c =
    let t = c.args.self.now in
    let k = c.requires.known in
    (found-guard t Named c.args.seen c.word_in-self.result k.stage k.scene c.in-Named.is refl c.word_in-self.ensures k.tells).1.plain

pub returns-in-Named : goal.returns-in-Named
returns-in-Named c =
    let t = c.args.self.now in
    let v = c.word_in-self.result in
    let p = c.named-self.result in
    let k = c.requires.known in
    let found = found-guard t Named c.args.seen v k.stage k.scene c.in-Named.is refl c.word_in-self.ensures k.tells in
    let is : IsNamedPhase v p = record { frozen = c.named-self.ensures.frozen; thawed = c.named-self.ensures.thawed } in
    let known = subst (λ z. below_facts (below_of t) z k.stage k.scene) c.in-Named.is k.holds in
    let b : Names (below_of t) t.config v c.args.seen p c.args.slots.now = names c.links_turn.ensures.asked (below_of t) t.config v c.args.seen p k.stage k.scene c.args.slots.now k.config k.good found.1.plain found.0 known is in
    let ends : EndsWell t.lower c.args.seen t.phase p c.args.slots.now = subst (λ z. EndsWell t.lower c.args.seen z p c.args.slots.now) (sym c.in-Named.is) b.ends in
    let m : Counts t.config (below_of t) t.phase p c.args.seen = counts t.config (below_of t) t.phase p c.args.seen (ap below_swaps c.in-Named.is) (ap (λ z. swaps_in (below_asks t.config (below_of t) z)) c.in-Named.is) c.requires.hears in
    record {
      config = refl;
      upper = refl;
      lower = refl;
      halves = refl;
      known = subst IsConfig k.config k.good.config;
      begun = b.begun;
      ready = b.ready;
      nearer = omega (arith, b.nearer, ap below_left c.in-Named.is);
      fewer = m.fewer;
      counted = λ z. m.counted;
      slots = subst (λ z. AreTakenFrom z (below_needs p) c.args.slots.now c.args.slots.now) (sym (ap below_needs c.in-Named.is)) b.taken;
      kept = λ outcome q. refl;
      begins = λ q. absurd (heard-in t.config (below_of t) t.phase Named c.args.seen Start c.in-Named.is q c.requires.hears);
      done = ends.done;
      last = λ q. absurd (heard-in t.config (below_of t) t.phase Named c.args.seen (Swapped true) c.in-Named.is q c.requires.hears);
      restart = ends.restart;
      no_swap = ends.no_swap;
      full_swaps = ends.full_swaps;
      full_nodes = ends.full_nodes;
      learns = λ stage s same good free facts tells. no-slot c.nothing_is_gained.ensures (named-of (below_of t) v) s c.args.slots.now p
          (named-learns c.links_stand_on.ensures.stand (below_of t) v p stage s good (found-guard t Named c.args.seen v stage s c.in-Named.is refl c.word_in-self.ensures tells).1
          (subst (λ z. below_facts (below_of t) z stage s) c.in-Named.is facts) is);
    }

pub returns-in_default : goal.returns-in_default
returns-in_default c =
    let t = c.args.self.now in
    let a = c.after-self.ensures in
    let e : EndsWell t.lower c.args.seen t.phase c.after-self.result c.args.slots.now = ends-well t.lower c.args.seen t.phase c.after-self.result c.args.slots.now a.done (λ q. inl (a.restart q)) a.no_swap a.slots in
    record {
      config = refl;
      upper = refl;
      lower = refl;
      halves = refl;
      known = a.config;
      begun = a.begun;
      ready = a.ready;
      nearer = omega (arith, a.nearer);
      fewer = a.fewer;
      counted = a.counted;
      slots = takes-none t.phase c.after-self.result c.args.slots.now (omega (arith, a.needs));
      kept = λ outcome q. refl;
      begins = λ q. absurd (c.in_default.not-Fresh (begins-fresh t.config (below_of t) t.phase (subst (Hears (below_asks t.config (below_of t) t.phase)) q c.requires.hears)));
      done = e.done;
      last = λ q. ap below_end (a.last q);
      restart = e.restart;
      no_swap = e.no_swap;
      full_swaps = e.full_swaps;
      full_nodes = e.full_nodes;
      learns = λ stage s same good free facts tells. no-slot c.nothing_is_gained.ensures (below_of t) s c.args.slots.now c.after-self.result (a.learns stage s same facts tells);
    }

pub returns-in-Fresh : goal.returns-in-Fresh
returns-in-Fresh c =
    let t = c.args.self.now in
    let k = c.requires.known in
    let hears : Hears (below_asks t.config (below_of t) Fresh) c.args.seen = subst (λ z. Hears (below_asks t.config (below_of t) z) c.args.seen) c.in-Fresh.is c.requires.hears in
    let e : EndsWell t.lower c.args.seen t.phase Room c.args.slots.now = subst (λ z. EndsWell t.lower c.args.seen z Room c.args.slots.now) (sym c.in-Fresh.is) (first-ends t.config (below_of t) c.args.seen c.args.slots.now hears) in
    let m : Counts t.config (below_of t) t.phase Room c.args.seen = counts t.config (below_of t) t.phase Room c.args.seen (ap below_swaps c.in-Fresh.is) (ap (λ z. swaps_in (below_asks t.config (below_of t) z)) c.in-Fresh.is) c.requires.hears in
    record {
      config = refl;
      upper = refl;
      lower = refl;
      halves = refl;
      known = subst IsConfig k.config k.good.config;
      begun = λ z. absurd (cc);
      ready = tt;
      nearer = omega (arith, ap below_left c.in-Fresh.is);
      fewer = m.fewer;
      counted = λ z. m.counted;
      slots = takes-none t.phase Room c.args.slots.now (omega (arith, ap below_needs c.in-Fresh.is));
      kept = λ outcome q. refl;
      begins = λ q. refl;
      done = e.done;
      last = λ q. absurd (heard-in t.config (below_of t) t.phase Fresh c.args.seen (Swapped true) c.in-Fresh.is q c.requires.hears);
      restart = e.restart;
      no_swap = e.no_swap;
      full_swaps = e.full_swaps;
      full_nodes = e.full_nodes;
      learns = λ stage s same good free facts tells. no-slot c.nothing_is_gained.ensures (below_of t) s c.args.slots.now Room
          (fresh-known t.config (below_of t) c.args.seen stage s (subst (λ z. below_facts (below_of t) z stage s) c.in-Fresh.is facts) (subst (λ z. Tells (below_asks t.config (below_of t) z) stage c.args.seen s) c.in-Fresh.is tells));
    }

pub returns-in-Room : goal.returns-in-Room
returns-in-Room c =
    let t = c.args.self.now in
    let new = c.read_or_end.new.self in
    let e = c.read_or_end.ensures in
    let k = c.requires.known in
    let hears : Hears (below_asks t.config (below_of t) Room) c.args.seen = subst (λ z. Hears (below_asks t.config (below_of t) z) c.args.seen) c.in-Room.is c.requires.hears in
    let b : Opens t.waits new.waits (below_of t) t.config c.args.seen new.phase c.args.slots.now = opens t.waits new.waits (below_of t) t.config c.args.seen new.phase c.args.slots.now k.stage k.scene k.config k.good (subst (λ z. below_facts (below_of t) z k.stage k.scene) c.in-Room.is k.holds) hears e.opened in
    let ends : EndsWell t.lower c.args.seen t.phase new.phase c.args.slots.now = subst (λ z. EndsWell t.lower c.args.seen z new.phase c.args.slots.now) (sym c.in-Room.is) b.ends in
    let m : Counts t.config (below_of t) t.phase new.phase c.args.seen = counts t.config (below_of t) t.phase new.phase c.args.seen (ap below_swaps c.in-Room.is) (ap (λ z. swaps_in (below_asks t.config (below_of t) z)) c.in-Room.is) c.requires.hears in
    record {
      config = e.config;
      upper = ap (λ z. z.upper) e.same;
      lower = ap (λ z. z.lower) e.same;
      halves = e.halves;
      known = subst IsConfig (k.config ∙ sym e.config) k.good.config;
      begun = b.begun;
      ready = subst (λ z. IsReadyBelow z (below_of new) new.phase) (sym e.config) (subst (λ z. IsReadyBelow t.config z new.phase) (sym e.same) b.ready);
      nearer = omega (arith, b.nearer, ap below_left c.in-Room.is);
      fewer = m.fewer;
      counted = λ z. m.counted;
      slots = takes-none t.phase new.phase c.args.slots.now (omega (arith, b.fewer, ap below_needs c.in-Room.is));
      kept = λ outcome q. refl;
      begins = λ q. absurd (heard-in t.config (below_of t) t.phase Room c.args.seen Start c.in-Room.is q c.requires.hears);
      done = ends.done;
      last = λ q. absurd (heard-in t.config (below_of t) t.phase Room c.args.seen (Swapped true) c.in-Room.is q c.requires.hears);
      restart = ends.restart;
      no_swap = ends.no_swap;
      full_swaps = ends.full_swaps;
      full_nodes = ends.full_nodes;
      learns = λ stage s same good free facts tells. subst (λ z. below_facts z new.phase Waiting (gained s c.args.slots.now c.args.slots.now)) (sym e.same)
          (no-slot c.nothing_is_gained.ensures (below_of t) s c.args.slots.now new.phase
          (opened-learns c.read_parents_were.ensures c.read_nodes_have_children.ensures t.config t.waits new.waits (below_of t) new.phase c.args.seen stage s e.opened good
          (subst (λ z. below_facts (below_of t) z stage s) c.in-Room.is facts)
          (subst (λ z. Tells (below_asks t.config (below_of t) z) stage c.args.seen s) c.in-Room.is tells)));
    }

pub returns-in-Word : goal.returns-in-Word
returns-in-Word c =
    let t = c.args.self.now in
    let i = c.in-Word.i in
    let k = c.requires.known in
    let v = c.word_in.result in
    let n = c.next_place-next in
    let hears : Hears (below_asks t.config (below_of t) (Word i)) c.args.seen = subst (λ z. Hears (below_asks t.config (below_of t) z) c.args.seen) c.in-Word.is c.requires.hears in
    let l : i < NODE_WORDS = word-within (below_of t) i k.stage k.scene (subst (λ z. below_facts (below_of t) z k.stage k.scene) c.in-Word.is k.holds) in
    let b : Words t.config (below_of t) i n.result c.args.seen c.after_word-self.result c.args.slots.now = subst (λ z. Words t.config (below_of t) i n.result c.args.seen z c.args.slots.now) (sym c.after_word-self.ensures)
    (words-on t.config (below_of t) i n.result n.ensures.after n.ensures.within c.args.seen k.stage k.scene c.args.slots.now k.config k.good hears (subst (λ z. below_facts (below_of t) z k.stage k.scene) c.in-Word.is k.holds)) in
    let e : EndsWell t.lower c.args.seen t.phase c.after_word-self.result c.args.slots.now = subst (λ z. EndsWell t.lower c.args.seen z c.after_word-self.result c.args.slots.now) (sym c.in-Word.is) b.ends in
    let m : Counts t.config (below_of t) t.phase c.after_word-self.result c.args.seen = counts t.config (below_of t) t.phase c.after_word-self.result c.args.seen (ap below_swaps c.in-Word.is) (ap (λ z. swaps_in (below_asks t.config (below_of t) z)) c.in-Word.is) c.requires.hears in
    record {
      config = refl;
      upper = refl;
      lower = refl;
      halves = refl;
      known = subst IsConfig k.config k.good.config;
      begun = b.begun;
      ready = subst (IsReadyBelow t.config (kept-of t i v)) (sym c.after_word-self.ensures)
          (word-ready t.config (below_of t) (slice_set t.read.0 i v) n.result (subst (IsReadyBelow t.config (below_of t)) c.after_word-self.ensures b.ready));
      nearer = omega (arith, b.nearer, n.ensures.after, c.with_skipped-self.ensures, ap below_left c.in-Word.is);
      fewer = m.fewer;
      counted = λ z. m.counted;
      slots = takes-none t.phase c.after_word-self.result c.args.slots.now (omega (arith, b.fewer, ap below_needs c.in-Word.is));
      kept = λ outcome q. refl;
      begins = λ q. absurd (heard-in t.config (below_of t) t.phase (Word i) c.args.seen Start c.in-Word.is q c.requires.hears);
      done = e.done;
      last = λ q. absurd (heard-in t.config (below_of t) t.phase (Word i) c.args.seen (Swapped true) c.in-Word.is q c.requires.hears);
      restart = e.restart;
      no_swap = e.no_swap;
      full_swaps = e.full_swaps;
      full_nodes = e.full_nodes;
      learns = λ stage s same good free facts tells. subst (λ z. below_facts (kept-of t i v) z Waiting (gained s c.args.slots.now c.args.slots.now)) (sym c.after_word-self.ensures)
          (no-slot c.nothing_is_gained.ensures (kept-of t i v) s c.args.slots.now (word_after n.result)
          (word-known t.config (below_of t) i n.result v c.args.seen stage s same good n.ensures.after n.ensures.within n.ensures.skipped (λ w q. c.word_in.ensures w q) (subst (λ z. below_facts (below_of t) z stage s) c.in-Word.is facts) (subst (λ z. Tells (below_asks t.config (below_of t) z) stage c.args.seen s) c.in-Word.is tells)));
    }
