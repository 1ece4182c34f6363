use Rattle.std.proofs.Common.{◌≡◌, true, ◌<◌, ℕ, length, inr, slice_index, slice_set, sym, ap, subst, ◌∙◌, refl, arith, inl}
use Rattle.bz_task.specs.Requests.{Hears, Tells, swaps_in}
use Rattle.bz_layout.specs.Config.{IsConfig}
use Rattle.bz_layout.specs.declared.sizes.TheConstants.{NODE_WORDS}
use Rattle.bz_layout.specs.declared.thresholds.TheConstants.{SPLIT_SLOTS}
use Rattle.bz_task.specs.OwnActs.{AreTakenFrom, gained}
use Rattle.bz_task.specs.Scene.{Waiting}
use Rattle.bz_task.specs.declared.todo.Seen.TheVariants.{Start, Swapped}
use Rattle.bz_fork.specs.Duties.{fork_of, three}
use Rattle.bz_fork.specs.Facts.{Fork, fork_plan, fork_differs, fork_facts, fork_asks, fork_needs, fork_left, fork_swaps, word_after, above_after, IsReadyFork}
use Rattle.bz_fork.specs.declared.phase.ForkPhase.TheVariants.{Fresh, Unread, Tight, Word, Again, Room, Above, Check, Writing}
use Rattle.bz_fork.specs.declared.split_inner.SplitInner.{SplitInner}
use Rattle.bz_fork.proofs.Beginning.{heard-in, asked-steps, one-left, ends-later}
use Rattle.bz_fork.proofs.Counting.{Counts, counts}
use Rattle.bz_fork.proofs.Ending.{EndsWell, takes-none}
use Rattle.bz_fork.proofs.Opening.{Opens, opens, opened-learns, found, full-node}
use Rattle.bz_fork.proofs.Telling.{Tolds, tolds, told-learns}
use Rattle.bz_fork.proofs.Passing.{Passes, passes, passed-learns}
use Rattle.bz_fork.proofs.Refusing.{Refuses, refuses, refused-learns}
use Rattle.bz_fork.proofs.Starting.{Firsts, plain, firsts, first-learns}
use Rattle.bz_fork.proofs.Reading.{Words, word-within, words-on, word-known, word-ready}
use Rattle.bz_fork.proofs.ReadingAbove.{Aboves, above-within, aboves-on, above-known, above-ready}
use Rattle.bz_fork.proofs.ReadingOn.{Ons, reads, read-learns}
use Rattle.bz_fork.proofs.Staying.{no-slot}
use Rattle.bz_writer.proofs.Sizes.{asks-some, no-end}
use Rattle.bz_writer.specs.Phases.{write_end}
use Rattle.bz_fork.proofs.split_inner.SplitInner.step.Goals as goal

-- the task with one word more
abbrev kept-of : SplitInner → ℕ → ℕ → Fork
kept-of t i v = record { upper = t.upper; middle = t.middle; lower = t.lower; slot = slice_index t.slots; image = three t.parent.0 t.left.0 t.right.0; read = slice_set t.read.0 i v; above = t.above.0 }

-- and with one word more of the parent
abbrev kept-above : SplitInner → ℕ → ℕ → Fork
kept-above t i v = record { upper = t.upper; middle = t.middle; lower = t.lower; slot = slice_index t.slots; image = three t.parent.0 t.left.0 t.right.0; read = t.read.0; above = slice_set t.above.0 i v }

pub first-self-requires : goal.first-self-requires
first-self-requires c =
    let t = c.args.self.now in
    let k = c.requires.known in
    plain c.links_turn.ensures.asked (fork_of t) k.stage k.scene k.good (subst (λ z. fork_facts (fork_of t) z k.stage k.scene) c.in-Fresh.is k.holds)

pub opened-self-requires : goal.opened-self-requires
opened-self-requires c =
    let t = c.args.self.now in
    let k = c.requires.known in
    record {
      node = full-node (fork_of t) k.stage k.scene (subst (λ z. fork_facts (fork_of t) z k.stage k.scene) c.in-Room.is k.holds);
      plain = λ e. (found t.config (fork_of t) c.args.seen k.stage k.scene (subst (λ z. Tells (fork_asks t.config (fork_of t) z) k.stage c.args.seen k.scene) c.in-Room.is k.tells) e).plain;
    }

pub write-next-requires : goal.write-next-requires
write-next-requires c =
    let t = c.args.self.now in
    let k = c.requires.known in
    record {
      hears = subst (λ z. Hears (fork_asks t.config (fork_of t) z) c.args.seen) c.in-Writing.is c.requires.hears;
      known = record { stage = k.stage; scene = k.scene; config = k.config; now = k.now; good = k.good; holds = subst (λ z. fork_facts (fork_of t) z k.stage k.scene) c.in-Writing.is k.holds; tells = subst (λ z. Tells (fork_asks t.config (fork_of t) z) k.stage c.args.seen k.scene) c.in-Writing.is k.tells };
      memory = subst (λ z. 0 < fork_needs z → c.args.slots.now.nodes ≡ t.config.nodes) c.in-Writing.is c.requires.memory;
    }

pub returns-in-Unread : goal.returns-in-Unread
returns-in-Unread c =
    let t = c.args.self.now in
    let k = c.requires.known in
    let hears : Hears (fork_asks t.config (fork_of t) Unread) c.args.seen = subst (λ z. Hears (fork_asks t.config (fork_of t) z) c.args.seen) c.in-Unread.is c.requires.hears in
    let b : Passes (fork_of t) t.config c.args.seen c.passed-self.result c.args.slots.now = passes (fork_of t) t.config c.args.seen c.passed-self.result c.args.slots.now hears c.passed-self.ensures in
    let e : EndsWell t.upper t.middle t.lower c.args.seen t.phase c.passed-self.result c.args.slots.now = subst (λ z. EndsWell t.upper t.middle t.lower c.args.seen z c.passed-self.result c.args.slots.now) (sym c.in-Unread.is) b.ends in
    let m : Counts t.config (fork_of t) t.phase c.passed-self.result c.args.seen = counts t.config (fork_of t) t.phase c.passed-self.result c.args.seen (ap fork_swaps c.in-Unread.is) (ap (λ z. swaps_in (fork_asks t.config (fork_of t) z)) c.in-Unread.is) c.requires.hears in
    record {
      config = refl;
      upper = refl;
      middle = refl;
      known = subst IsConfig k.config k.good.config;
      begun = b.begun;
      ready = b.ready;
      nearer = omega (arith, b.nearer, ap fork_left c.in-Unread.is);
      fewer = m.fewer;
      counted = λ z. m.counted;
      slots = takes-none t.phase c.passed-self.result c.args.slots.now (omega (arith, b.fewer, ap fork_needs c.in-Unread.is));
      kept = λ outcome q. refl;
      begins = λ q. absurd (heard-in t.config (fork_of t) t.phase Unread c.args.seen Start c.in-Unread.is q c.requires.hears);
      done = e.done;
      last = λ q. absurd (heard-in t.config (fork_of t) t.phase Unread c.args.seen (Swapped true) c.in-Unread.is q c.requires.hears);
      restart = e.restart;
      no_swap = e.no_swap;
      full_swaps = e.full_swaps;
      full_nodes = e.full_nodes;
      learns = λ stage s now same good free facts tells. no-slot (fork_of t) s c.args.slots.now c.passed-self.result
          (passed-learns c.read_nodes_were.ensures t.config (fork_of t) c.passed-self.result c.args.seen stage s c.passed-self.ensures good
          (subst (λ z. fork_facts (fork_of t) z stage s) c.in-Unread.is facts)
          (subst (λ z. Tells (fork_asks t.config (fork_of t) z) stage c.args.seen s) c.in-Unread.is tells));
    }

pub returns-in-Tight : goal.returns-in-Tight
returns-in-Tight c =
    let t = c.args.self.now in
    let k = c.requires.known in
    let hears : Hears (fork_asks t.config (fork_of t) Tight) c.args.seen = subst (λ z. Hears (fork_asks t.config (fork_of t) z) c.args.seen) c.in-Tight.is c.requires.hears in
    let b : Refuses (fork_of t) t.config c.args.seen c.refused-self.result c.args.slots.now = refuses (fork_of t) t.config c.args.seen c.refused-self.result c.args.slots.now hears c.refused-self.ensures in
    let e : EndsWell t.upper t.middle t.lower c.args.seen t.phase c.refused-self.result c.args.slots.now = subst (λ z. EndsWell t.upper t.middle t.lower c.args.seen z c.refused-self.result c.args.slots.now) (sym c.in-Tight.is) b.ends in
    let m : Counts t.config (fork_of t) t.phase c.refused-self.result c.args.seen = counts t.config (fork_of t) t.phase c.refused-self.result c.args.seen (ap fork_swaps c.in-Tight.is) (ap (λ z. swaps_in (fork_asks t.config (fork_of t) z)) c.in-Tight.is) c.requires.hears in
    record {
      config = refl;
      upper = refl;
      middle = refl;
      known = subst IsConfig k.config k.good.config;
      begun = b.begun;
      ready = b.ready;
      nearer = omega (arith, b.nearer, ap fork_left c.in-Tight.is);
      fewer = m.fewer;
      counted = λ z. m.counted;
      slots = takes-none t.phase c.refused-self.result c.args.slots.now (omega (arith, b.fewer, ap fork_needs c.in-Tight.is));
      kept = λ outcome q. refl;
      begins = λ q. absurd (heard-in t.config (fork_of t) t.phase Tight c.args.seen Start c.in-Tight.is q c.requires.hears);
      done = e.done;
      last = λ q. absurd (heard-in t.config (fork_of t) t.phase Tight c.args.seen (Swapped true) c.in-Tight.is q c.requires.hears);
      restart = e.restart;
      no_swap = e.no_swap;
      full_swaps = e.full_swaps;
      full_nodes = e.full_nodes;
      learns = λ stage s now same good free facts tells. no-slot (fork_of t) s c.args.slots.now c.refused-self.result
          (refused-learns c.parents_of_nodes_were.ensures c.read_nodes_have_children.ensures c.full_nodes_have_halves.ensures t.config (fork_of t) c.refused-self.result c.args.seen stage s c.refused-self.ensures good
          (subst (λ z. fork_facts (fork_of t) z stage s) c.in-Tight.is facts)
          (subst (λ z. Tells (fork_asks t.config (fork_of t) z) stage c.args.seen s) c.in-Tight.is tells));
    }

pub returns-in-Again : goal.returns-in-Again
returns-in-Again c =
    let t = c.args.self.now in
    let k = c.requires.known in
    let hears : Hears (fork_asks t.config (fork_of t) Again) c.args.seen = subst (λ z. Hears (fork_asks t.config (fork_of t) z) c.args.seen) c.in-Again.is c.requires.hears in
    let b : Ons (fork_of t) t.config c.args.seen c.read_on-self.result c.args.slots.now = reads (fork_of t) t.config c.args.seen c.read_on-self.result c.args.slots.now hears c.read_on-self.ensures in
    let e : EndsWell t.upper t.middle t.lower c.args.seen t.phase c.read_on-self.result c.args.slots.now = subst (λ z. EndsWell t.upper t.middle t.lower c.args.seen z c.read_on-self.result c.args.slots.now) (sym c.in-Again.is) b.ends in
    let m : Counts t.config (fork_of t) t.phase c.read_on-self.result c.args.seen = counts t.config (fork_of t) t.phase c.read_on-self.result c.args.seen (ap fork_swaps c.in-Again.is) (ap (λ z. swaps_in (fork_asks t.config (fork_of t) z)) c.in-Again.is) c.requires.hears in
    record {
      config = refl;
      upper = refl;
      middle = refl;
      known = subst IsConfig k.config k.good.config;
      begun = b.begun;
      ready = b.ready;
      nearer = omega (arith, b.nearer, ap fork_left c.in-Again.is);
      fewer = m.fewer;
      counted = λ z. m.counted;
      slots = takes-none t.phase c.read_on-self.result c.args.slots.now (omega (arith, b.fewer, ap fork_needs c.in-Again.is));
      kept = λ outcome q. refl;
      begins = λ q. absurd (heard-in t.config (fork_of t) t.phase Again c.args.seen Start c.in-Again.is q c.requires.hears);
      done = e.done;
      last = λ q. absurd (heard-in t.config (fork_of t) t.phase Again c.args.seen (Swapped true) c.in-Again.is q c.requires.hears);
      restart = e.restart;
      no_swap = e.no_swap;
      full_swaps = e.full_swaps;
      full_nodes = e.full_nodes;
      learns = λ stage s now same good free facts tells. no-slot (fork_of t) s c.args.slots.now c.read_on-self.result
          (read-learns c.read_nodes_were.ensures t.config (fork_of t) c.read_on-self.result c.args.seen stage s c.read_on-self.ensures good
          (subst (λ z. fork_facts (fork_of t) z stage s) c.in-Again.is facts)
          (subst (λ z. Tells (fork_asks t.config (fork_of t) z) stage c.args.seen s) c.in-Again.is tells));
    }

pub returns-in-Room : goal.returns-in-Room
returns-in-Room c =
    let t = c.args.self.now in
    let k = c.requires.known in
    let hears : Hears (fork_asks t.config (fork_of t) Room) c.args.seen = subst (λ z. Hears (fork_asks t.config (fork_of t) z) c.args.seen) c.in-Room.is c.requires.hears in
    let b : Opens (fork_of t) t.config c.args.seen c.opened-self.result c.args.slots.now = opens (fork_of t) t.config c.args.seen c.opened-self.result c.args.slots.now k.stage k.scene k.config k.good (subst (λ z. fork_facts (fork_of t) z k.stage k.scene) c.in-Room.is k.holds) hears c.opened-self.ensures in
    let e : EndsWell t.upper t.middle t.lower c.args.seen t.phase c.opened-self.result c.args.slots.now = subst (λ z. EndsWell t.upper t.middle t.lower c.args.seen z c.opened-self.result c.args.slots.now) (sym c.in-Room.is) b.ends in
    let m : Counts t.config (fork_of t) t.phase c.opened-self.result c.args.seen = counts t.config (fork_of t) t.phase c.opened-self.result c.args.seen (ap fork_swaps c.in-Room.is) (ap (λ z. swaps_in (fork_asks t.config (fork_of t) z)) c.in-Room.is) c.requires.hears in
    record {
      config = refl;
      upper = refl;
      middle = refl;
      known = subst IsConfig k.config k.good.config;
      begun = b.begun;
      ready = b.ready;
      nearer = omega (arith, b.nearer, ap fork_left c.in-Room.is);
      fewer = m.fewer;
      counted = λ z. m.counted;
      slots = takes-none t.phase c.opened-self.result c.args.slots.now (omega (arith, b.fewer, ap fork_needs c.in-Room.is));
      kept = λ outcome q. refl;
      begins = λ q. absurd (heard-in t.config (fork_of t) t.phase Room c.args.seen Start c.in-Room.is q c.requires.hears);
      done = e.done;
      last = λ q. absurd (heard-in t.config (fork_of t) t.phase Room c.args.seen (Swapped true) c.in-Room.is q c.requires.hears);
      restart = e.restart;
      no_swap = e.no_swap;
      full_swaps = e.full_swaps;
      full_nodes = e.full_nodes;
      learns = λ stage s now same good free facts tells. no-slot (fork_of t) s c.args.slots.now c.opened-self.result
          (opened-learns c.parents_of_nodes_were.ensures c.read_nodes_have_children.ensures t.config (fork_of t) c.opened-self.result c.args.seen stage s c.opened-self.ensures good
          (subst (λ z. fork_facts (fork_of t) z stage s) c.in-Room.is facts)
          (subst (λ z. Tells (fork_asks t.config (fork_of t) z) stage c.args.seen s) c.in-Room.is tells));
    }

pub returns-in-Check : goal.returns-in-Check
returns-in-Check c =
    let t = c.args.self.now in
    let k = c.requires.known in
    let hears : Hears (fork_asks t.config (fork_of t) Check) c.args.seen = subst (λ z. Hears (fork_asks t.config (fork_of t) z) c.args.seen) c.in-Check.is c.requires.hears in
    let b : Tolds (fork_of t) t.config c.args.seen c.told-self.result c.args.slots.now = tolds (fork_of t) t.config c.args.seen c.told-self.result c.args.slots.now hears c.told-self.ensures in
    let needed : fork_needs t.phase ≡ SPLIT_SLOTS = ap fork_needs c.in-Check.is in
    let ends : EndsWell t.upper t.middle t.lower c.args.seen t.phase c.told-self.result c.args.slots.now = subst (λ z. EndsWell t.upper t.middle t.lower c.args.seen z c.told-self.result c.args.slots.now) (sym c.in-Check.is) b.ends in
    let m : Counts t.config (fork_of t) t.phase c.told-self.result c.args.seen = counts t.config (fork_of t) t.phase c.told-self.result c.args.seen (ap fork_swaps c.in-Check.is) (ap (λ z. swaps_in (fork_asks t.config (fork_of t) z)) c.in-Check.is) c.requires.hears in
    record {
      config = refl;
      upper = refl;
      middle = refl;
      known = subst IsConfig k.config k.good.config;
      begun = b.begun;
      ready = b.ready;
      nearer = omega (arith, b.nearer, ap fork_left c.in-Check.is);
      fewer = m.fewer;
      counted = λ z. m.counted;
      slots = subst (λ z. AreTakenFrom z (fork_needs c.told-self.result) c.args.slots.now c.args.slots.now) (sym needed) b.taken;
      kept = λ outcome q. refl;
      begins = λ q. absurd (heard-in t.config (fork_of t) t.phase Check c.args.seen Start c.in-Check.is q c.requires.hears);
      done = ends.done;
      last = λ q. absurd (heard-in t.config (fork_of t) t.phase Check c.args.seen (Swapped true) c.in-Check.is q c.requires.hears);
      restart = ends.restart;
      no_swap = ends.no_swap;
      full_swaps = ends.full_swaps;
      full_nodes = ends.full_nodes;
      learns = λ stage s now same good free facts tells. no-slot (fork_of t) s c.args.slots.now c.told-self.result
          (told-learns c.parents_of_nodes_were.ensures c.guarded_links_stand.ensures c.ranges_stay.ensures c.read_nodes_have_children.ensures t.config (fork_of t) c.told-self.result c.args.seen stage s c.told-self.ensures good
          (subst (λ z. fork_facts (fork_of t) z stage s) c.in-Check.is facts)
          (subst (λ z. Tells (fork_asks t.config (fork_of t) z) stage c.args.seen s) c.in-Check.is tells));
    }

pub returns-in-Writing : goal.returns-in-Writing
returns-in-Writing c =
    let t = c.args.self.now in
    let k = c.requires.known in
    let e = c.write-next.ensures in
    let some = asks-some c.write-next.new.self.config (fork_plan (fork_of c.write-next.new.self)) c.write-next.result e.begun in
    let g = e.goes some.0 some.1 in
    record {
      config = e.config;
      upper = e.upper;
      middle = e.middle;
      known = subst IsConfig (k.config ∙ sym e.config) k.good.config;
      begun = λ z. absurd (cc);
      ready = (e.begun, e.ready);
      nearer = omega (arith, g.nearer, ap fork_left c.in-Writing.is, asked-steps c.write-next.new.self.config (fork_of c.write-next.new.self) (Writing c.write-next.result));
      fewer = omega (arith, g.fewer, ap fork_swaps c.in-Writing.is, ap (λ z. swaps_in (fork_asks t.config (fork_of t) z)) c.in-Writing.is);
      counted = λ z. omega (arith, g.counted z);
      slots = subst (λ z. AreTakenFrom (fork_needs z) (fork_needs (Writing c.write-next.result)) c.args.slots.now c.write-next.new.slots) (sym c.in-Writing.is) g.slots;
      kept = g.kept;
      begins = λ q. no-end (write_end c.write-next.result) (λ outcome z. ends-later t.config (fork_of t) t.phase c.in-Writing.phase c.args.seen outcome c.in-Writing.is q c.requires.hears (g.begins outcome q z));
      done = g.done;
      last = λ q. g.last q (ap fork_swaps (sym c.in-Writing.is) ∙ one-left t.config (fork_of t) t.phase (subst (Hears (fork_asks t.config (fork_of t) t.phase)) q c.requires.hears));
      restart = λ q. elim (g.restart q) [ inl a ↦ inl a | inr a ↦ inr (subst (λ z. fork_differs t.upper t.middle t.lower z c.args.seen) (sym c.in-Writing.is) a) ];
      no_swap = g.no_swap;
      full_swaps = g.full_swaps;
      full_nodes = λ q. subst (λ z. length c.args.slots.now.free < fork_needs z) (sym c.in-Writing.is) (g.full_nodes q);
      learns = λ stage s now same good free facts tells. e.learns stage s now same good (λ n. free (subst (λ z. 0 < fork_needs z) (sym c.in-Writing.is) n)) (subst (λ z. fork_facts (fork_of t) z stage s) c.in-Writing.is facts) (subst (λ z. Tells (fork_asks t.config (fork_of t) z) stage c.args.seen s) c.in-Writing.is tells);
    }

pub returns-in-Fresh : goal.returns-in-Fresh
returns-in-Fresh c =
    let t = c.args.self.now in
    let k = c.requires.known in
    let hears : Hears (fork_asks t.config (fork_of t) Fresh) c.args.seen = subst (λ z. Hears (fork_asks t.config (fork_of t) z) c.args.seen) c.in-Fresh.is c.requires.hears in
    let b : Firsts (fork_of t) t.config c.args.seen c.first-self.result c.args.slots.now = firsts (fork_of t) t.config c.args.seen c.first-self.result c.args.slots.now k.stage k.scene k.config k.good (subst (λ z. fork_facts (fork_of t) z k.stage k.scene) c.in-Fresh.is k.holds) hears c.first-self.ensures in
    let e : EndsWell t.upper t.middle t.lower c.args.seen t.phase c.first-self.result c.args.slots.now = subst (λ z. EndsWell t.upper t.middle t.lower c.args.seen z c.first-self.result c.args.slots.now) (sym c.in-Fresh.is) b.ends in
    let m : Counts t.config (fork_of t) t.phase c.first-self.result c.args.seen = counts t.config (fork_of t) t.phase c.first-self.result c.args.seen (ap fork_swaps c.in-Fresh.is) (ap (λ z. swaps_in (fork_asks t.config (fork_of t) z)) c.in-Fresh.is) c.requires.hears in
    record {
      config = refl;
      upper = refl;
      middle = refl;
      known = subst IsConfig k.config k.good.config;
      begun = b.begun;
      ready = b.ready;
      nearer = omega (arith, b.nearer, ap fork_left c.in-Fresh.is);
      fewer = m.fewer;
      counted = λ z. m.counted;
      slots = takes-none t.phase c.first-self.result c.args.slots.now (omega (arith, b.fewer, ap fork_needs c.in-Fresh.is));
      kept = λ outcome q. refl;
      begins = λ q. b.goes;
      done = e.done;
      last = λ q. absurd (heard-in t.config (fork_of t) t.phase Fresh c.args.seen (Swapped true) c.in-Fresh.is q c.requires.hears);
      restart = e.restart;
      no_swap = e.no_swap;
      full_swaps = e.full_swaps;
      full_nodes = e.full_nodes;
      learns = λ stage s now same good free facts tells. no-slot (fork_of t) s c.args.slots.now c.first-self.result
          (first-learns t.config (fork_of t) c.first-self.result c.args.seen stage s c.first-self.ensures (subst (λ z. fork_facts (fork_of t) z stage s) c.in-Fresh.is facts) (subst (λ z. Tells (fork_asks t.config (fork_of t) z) stage c.args.seen s) c.in-Fresh.is tells));
    }

pub returns-in-Word : goal.returns-in-Word
returns-in-Word c =
    let t = c.args.self.now in
    let i = c.in-Word.i in
    let k = c.requires.known in
    let v = c.word_in.result in
    let n = c.next_place-next in
    let hears : Hears (fork_asks t.config (fork_of t) (Word i)) c.args.seen = subst (λ z. Hears (fork_asks t.config (fork_of t) z) c.args.seen) c.in-Word.is c.requires.hears in
    let l : i < NODE_WORDS = word-within (fork_of t) i k.stage k.scene (subst (λ z. fork_facts (fork_of t) z k.stage k.scene) c.in-Word.is k.holds) in
    let b : Words t.config (fork_of t) i c.args.seen c.after_word-self.result c.args.slots.now = subst (λ z. Words t.config (fork_of t) i c.args.seen z c.args.slots.now) (sym c.after_word-self.ensures)
    (words-on t.config (fork_of t) i n.result n.ensures.after n.ensures.within c.args.seen k.stage k.scene c.args.slots.now k.config k.good hears (subst (λ z. fork_facts (fork_of t) z k.stage k.scene) c.in-Word.is k.holds)) in
    let e : EndsWell t.upper t.middle t.lower c.args.seen t.phase c.after_word-self.result c.args.slots.now = subst (λ z. EndsWell t.upper t.middle t.lower c.args.seen z c.after_word-self.result c.args.slots.now) (sym c.in-Word.is) b.ends in
    let m : Counts t.config (fork_of t) t.phase c.after_word-self.result c.args.seen = counts t.config (fork_of t) t.phase c.after_word-self.result c.args.seen (ap fork_swaps c.in-Word.is) (ap (λ z. swaps_in (fork_asks t.config (fork_of t) z)) c.in-Word.is) c.requires.hears in
    record {
      config = refl;
      upper = refl;
      middle = refl;
      known = subst IsConfig k.config k.good.config;
      begun = b.begun;
      ready = subst (IsReadyFork t.config (kept-of t i v)) (sym c.after_word-self.ensures)
          (word-ready t.config (fork_of t) (slice_set t.read.0 i v) n.result (subst (IsReadyFork t.config (fork_of t)) c.after_word-self.ensures b.ready));
      nearer = omega (arith, b.nearer, ap fork_left c.in-Word.is);
      fewer = m.fewer;
      counted = λ z. m.counted;
      slots = takes-none t.phase c.after_word-self.result c.args.slots.now (omega (arith, b.fewer, ap fork_needs c.in-Word.is));
      kept = λ outcome q. refl;
      begins = λ q. absurd (heard-in t.config (fork_of t) t.phase (Word i) c.args.seen Start c.in-Word.is q c.requires.hears);
      done = e.done;
      last = λ q. absurd (heard-in t.config (fork_of t) t.phase (Word i) c.args.seen (Swapped true) c.in-Word.is q c.requires.hears);
      restart = e.restart;
      no_swap = e.no_swap;
      full_swaps = e.full_swaps;
      full_nodes = e.full_nodes;
      learns = λ stage s now same good free facts tells. subst (λ z. fork_facts (kept-of t i v) z Waiting (gained s c.args.slots.now c.args.slots.now)) (sym c.after_word-self.ensures)
          (no-slot (kept-of t i v) s c.args.slots.now (word_after n.result)
          (word-known t.config (fork_of t) i n.result v c.args.seen stage s same good n.ensures.after n.ensures.within n.ensures.skipped (λ w q. c.word_in.ensures w q) (subst (λ z. fork_facts (fork_of t) z stage s) c.in-Word.is facts) (subst (λ z. Tells (fork_asks t.config (fork_of t) z) stage c.args.seen s) c.in-Word.is tells)));
    }

pub returns-in-Above : goal.returns-in-Above
returns-in-Above c =
    let t = c.args.self.now in
    let i = c.in-Above.i in
    let k = c.requires.known in
    let v = c.word_in-in-Above.result in
    let n = c.next_place-other in
    let hears : Hears (fork_asks t.config (fork_of t) (Above i)) c.args.seen = subst (λ z. Hears (fork_asks t.config (fork_of t) z) c.args.seen) c.in-Above.is c.requires.hears in
    let l : i < NODE_WORDS = above-within (fork_of t) i k.stage k.scene (subst (λ z. fork_facts (fork_of t) z k.stage k.scene) c.in-Above.is k.holds) in
    let b : Aboves t.config (fork_of t) i c.args.seen c.after_above-self.result c.args.slots.now = subst (λ z. Aboves t.config (fork_of t) i c.args.seen z c.args.slots.now) (sym c.after_above-self.ensures)
    (aboves-on t.config (fork_of t) i n.result n.ensures.after n.ensures.within c.args.seen k.stage k.scene c.args.slots.now k.config k.good hears (subst (λ z. fork_facts (fork_of t) z k.stage k.scene) c.in-Above.is k.holds)) in
    let e : EndsWell t.upper t.middle t.lower c.args.seen t.phase c.after_above-self.result c.args.slots.now = subst (λ z. EndsWell t.upper t.middle t.lower c.args.seen z c.after_above-self.result c.args.slots.now) (sym c.in-Above.is) b.ends in
    let m : Counts t.config (fork_of t) t.phase c.after_above-self.result c.args.seen = counts t.config (fork_of t) t.phase c.after_above-self.result c.args.seen (ap fork_swaps c.in-Above.is) (ap (λ z. swaps_in (fork_asks t.config (fork_of t) z)) c.in-Above.is) c.requires.hears in
    record {
      config = refl;
      upper = refl;
      middle = refl;
      known = subst IsConfig k.config k.good.config;
      begun = b.begun;
      ready = subst (IsReadyFork t.config (kept-above t i v)) (sym c.after_above-self.ensures)
          (above-ready t.config (fork_of t) (slice_set t.above.0 i v) n.result (subst (IsReadyFork t.config (fork_of t)) c.after_above-self.ensures b.ready));
      nearer = omega (arith, b.nearer, ap fork_left c.in-Above.is);
      fewer = m.fewer;
      counted = λ z. m.counted;
      slots = takes-none t.phase c.after_above-self.result c.args.slots.now (omega (arith, b.fewer, ap fork_needs c.in-Above.is));
      kept = λ outcome q. refl;
      begins = λ q. absurd (heard-in t.config (fork_of t) t.phase (Above i) c.args.seen Start c.in-Above.is q c.requires.hears);
      done = e.done;
      last = λ q. absurd (heard-in t.config (fork_of t) t.phase (Above i) c.args.seen (Swapped true) c.in-Above.is q c.requires.hears);
      restart = e.restart;
      no_swap = e.no_swap;
      full_swaps = e.full_swaps;
      full_nodes = e.full_nodes;
      learns = λ stage s now same good free facts tells. subst (λ z. fork_facts (kept-above t i v) z Waiting (gained s c.args.slots.now c.args.slots.now)) (sym c.after_above-self.ensures)
          (no-slot (kept-above t i v) s c.args.slots.now (above_after n.result)
          (above-known t.config (fork_of t) i n.result v c.args.seen stage s same good n.ensures.after n.ensures.within n.ensures.skipped (λ w q. c.word_in-in-Above.ensures w q) (subst (λ z. fork_facts (fork_of t) z stage s) c.in-Above.is facts) (subst (λ z. Tells (fork_asks t.config (fork_of t) z) stage c.args.seen s) c.in-Above.is tells)));
    }
