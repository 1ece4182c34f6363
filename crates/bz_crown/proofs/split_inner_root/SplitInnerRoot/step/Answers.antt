use Rattle.std.proofs.Common.{◌≡◌, true, ◌<◌, ℕ, length, inr, slice_index, slice_set, sym, ap, subst, ◌∙◌, refl, arith, inl}
use Rattle.bz_task.specs.Requests.{Hears, Tells, swaps_in}
use Rattle.bz_layout.specs.Config.{IsConfig}
use Rattle.bz_layout.specs.declared.sizes.TheConstants.{NODE_WORDS}
use Rattle.bz_layout.specs.declared.thresholds.TheConstants.{SPLIT_SLOTS}
use Rattle.bz_task.specs.OwnActs.{AreTakenFrom, gained}
use Rattle.bz_task.specs.Scene.{Waiting}
use Rattle.bz_task.specs.declared.todo.Seen.TheVariants.{Start, Swapped}
use Rattle.bz_crown.specs.Duties.{crown_of, three}
use Rattle.bz_crown.specs.Facts.{Crown, crown_plan, crown_differs, crown_facts, crown_asks, crown_needs, crown_left, crown_swaps, word_after, IsReadyCrown}
use Rattle.bz_crown.specs.declared.phase.CrownPhase.TheVariants.{Fresh, Word, Again, Writing}
use Rattle.bz_crown.specs.declared.split_inner_root.SplitInnerRoot.{SplitInnerRoot}
use Rattle.bz_crown.proofs.Beginning.{heard-in, asked-steps, one-left, ends-later}
use Rattle.bz_crown.proofs.Counting.{Counts, counts}
use Rattle.bz_crown.proofs.Ending.{EndsWell, first-ends, takes-none}
use Rattle.bz_crown.proofs.Telling.{Tolds, tolds, told-learns}
use Rattle.bz_crown.proofs.Reading.{Words, fresh-ready, word-within, words-on, fresh-known, word-known, word-ready}
use Rattle.bz_crown.proofs.Staying.{no-slot}
use Rattle.bz_writer.proofs.Sizes.{asks-some, no-end}
use Rattle.bz_writer.specs.Phases.{write_end}
use Rattle.bz_crown.proofs.split_inner_root.SplitInnerRoot.step.Goals as goal

-- the task with one word more
abbrev kept-of : SplitInnerRoot → ℕ → ℕ → Crown
kept-of t i v = record { upper = t.upper; lower = t.lower; slot = slice_index t.slots; image = three t.root.0 t.left.0 t.right.0; read = slice_set t.read.0 i v }

pub write-next-requires : goal.write-next-requires
write-next-requires c =
    let t = c.args.self.now in
    let k = c.requires.known in
    record {
      hears = subst (λ z. Hears (crown_asks t.config (crown_of t) z) c.args.seen) c.in-Writing.is c.requires.hears;
      known = record { stage = k.stage; scene = k.scene; config = k.config; now = k.now; good = k.good; holds = subst (λ z. crown_facts (crown_of t) z k.stage k.scene) c.in-Writing.is k.holds; tells = subst (λ z. Tells (crown_asks t.config (crown_of t) z) k.stage c.args.seen k.scene) c.in-Writing.is k.tells };
      memory = subst (λ z. 0 < crown_needs z → c.args.slots.now.nodes ≡ t.config.nodes) c.in-Writing.is c.requires.memory;
    }

pub returns-in-Again : goal.returns-in-Again
returns-in-Again c =
    let t = c.args.self.now in
    let k = c.requires.known in
    let hears : Hears (crown_asks t.config (crown_of t) Again) c.args.seen = subst (λ z. Hears (crown_asks t.config (crown_of t) z) c.args.seen) c.in-Again.is c.requires.hears in
    let b : Tolds (crown_of t) t.config c.args.seen c.told-self.result c.args.slots.now = tolds (crown_of t) t.config c.args.seen c.told-self.result c.args.slots.now hears c.told-self.ensures in
    let needed : crown_needs t.phase ≡ SPLIT_SLOTS = ap crown_needs c.in-Again.is in
    let ends : EndsWell t.upper t.lower c.args.seen t.phase c.told-self.result c.args.slots.now = subst (λ z. EndsWell t.upper t.lower c.args.seen z c.told-self.result c.args.slots.now) (sym c.in-Again.is) b.ends in
    let m : Counts t.config (crown_of t) t.phase c.told-self.result c.args.seen = counts t.config (crown_of t) t.phase c.told-self.result c.args.seen (ap crown_swaps c.in-Again.is) (ap (λ z. swaps_in (crown_asks t.config (crown_of t) z)) c.in-Again.is) c.requires.hears in
    record {
      config = refl;
      upper = refl;
      known = subst IsConfig k.config k.good.config;
      begun = b.begun;
      ready = b.ready;
      nearer = omega (arith, b.nearer, ap crown_left c.in-Again.is);
      fewer = m.fewer;
      counted = λ z. m.counted;
      slots = subst (λ z. AreTakenFrom z (crown_needs c.told-self.result) c.args.slots.now c.args.slots.now) (sym needed) b.taken;
      kept = λ outcome q. refl;
      begins = λ q. absurd (heard-in t.config (crown_of t) t.phase Again c.args.seen Start c.in-Again.is q c.requires.hears);
      done = ends.done;
      last = λ q. absurd (heard-in t.config (crown_of t) t.phase Again c.args.seen (Swapped true) c.in-Again.is q c.requires.hears);
      restart = ends.restart;
      no_swap = ends.no_swap;
      full_swaps = ends.full_swaps;
      full_nodes = ends.full_nodes;
      learns = λ stage s now same good free facts tells. no-slot (crown_of t) s c.args.slots.now c.told-self.result
          (told-learns c.read_nodes_were.ensures t.config (crown_of t) c.told-self.result c.args.seen stage s c.told-self.ensures same good
          (subst (λ z. crown_facts (crown_of t) z stage s) c.in-Again.is facts)
          (subst (λ z. Tells (crown_asks t.config (crown_of t) z) stage c.args.seen s) c.in-Again.is tells));
    }

pub returns-in-Writing : goal.returns-in-Writing
returns-in-Writing c =
    let t = c.args.self.now in
    let k = c.requires.known in
    let e = c.write-next.ensures in
    let some = asks-some c.write-next.new.self.config (crown_plan (crown_of c.write-next.new.self)) c.write-next.result e.begun in
    let g = e.goes some.0 some.1 in
    record {
      config = e.config;
      upper = e.upper;
      known = subst IsConfig (k.config ∙ sym e.config) k.good.config;
      begun = λ z. absurd (cc);
      ready = (e.begun, e.ready);
      nearer = omega (arith, g.nearer, ap crown_left c.in-Writing.is, asked-steps c.write-next.new.self.config (crown_of c.write-next.new.self) (Writing c.write-next.result));
      fewer = omega (arith, g.fewer, ap crown_swaps c.in-Writing.is, ap (λ z. swaps_in (crown_asks t.config (crown_of t) z)) c.in-Writing.is);
      counted = λ z. omega (arith, g.counted z);
      slots = subst (λ z. AreTakenFrom (crown_needs z) (crown_needs (Writing c.write-next.result)) c.args.slots.now c.write-next.new.slots) (sym c.in-Writing.is) g.slots;
      kept = g.kept;
      begins = λ q. no-end (write_end c.write-next.result) (λ outcome z. ends-later t.config (crown_of t) t.phase c.in-Writing.phase c.args.seen outcome c.in-Writing.is q c.requires.hears (g.begins outcome q z));
      done = g.done;
      last = λ q. g.last q (ap crown_swaps (sym c.in-Writing.is) ∙ one-left t.config (crown_of t) t.phase (subst (Hears (crown_asks t.config (crown_of t) t.phase)) q c.requires.hears));
      restart = λ q. elim (g.restart q) [ inl a ↦ inl a | inr a ↦ inr (subst (λ z. crown_differs t.upper t.lower z c.args.seen) (sym c.in-Writing.is) a) ];
      no_swap = g.no_swap;
      full_swaps = g.full_swaps;
      full_nodes = λ q. subst (λ z. length c.args.slots.now.free < crown_needs z) (sym c.in-Writing.is) (g.full_nodes q);
      learns = λ stage s now same good free facts tells. e.learns stage s now same good (λ n. free (subst (λ z. 0 < crown_needs z) (sym c.in-Writing.is) n)) (subst (λ z. crown_facts (crown_of t) z stage s) c.in-Writing.is facts) (subst (λ z. Tells (crown_asks t.config (crown_of t) z) stage c.args.seen s) c.in-Writing.is tells);
    }

pub returns-in-Fresh : goal.returns-in-Fresh
returns-in-Fresh c =
    let t = c.args.self.now in
    let k = c.requires.known in
    let hears : Hears (crown_asks t.config (crown_of t) Fresh) c.args.seen = subst (λ z. Hears (crown_asks t.config (crown_of t) z) c.args.seen) c.in-Fresh.is c.requires.hears in
    let e : EndsWell t.upper t.lower c.args.seen t.phase (Word 1) c.args.slots.now = subst (λ z. EndsWell t.upper t.lower c.args.seen z (Word 1) c.args.slots.now) (sym c.in-Fresh.is) (first-ends t.config (crown_of t) c.args.seen c.args.slots.now hears) in
    let m : Counts t.config (crown_of t) t.phase (Word 1) c.args.seen = counts t.config (crown_of t) t.phase (Word 1) c.args.seen (ap crown_swaps c.in-Fresh.is) (ap (λ z. swaps_in (crown_asks t.config (crown_of t) z)) c.in-Fresh.is) c.requires.hears in
    record {
      config = refl;
      upper = refl;
      known = subst IsConfig k.config k.good.config;
      begun = λ z. absurd (cc);
      ready = fresh-ready t.config (crown_of t) c.args.seen k.stage k.scene k.config k.good (subst (λ z. crown_facts (crown_of t) z k.stage k.scene) c.in-Fresh.is k.holds);
      nearer = omega (arith, ap crown_left c.in-Fresh.is);
      fewer = m.fewer;
      counted = λ z. m.counted;
      slots = takes-none t.phase (Word 1) c.args.slots.now (omega (arith, ap crown_needs c.in-Fresh.is));
      kept = λ outcome q. refl;
      begins = λ q. refl;
      done = e.done;
      last = λ q. absurd (heard-in t.config (crown_of t) t.phase Fresh c.args.seen (Swapped true) c.in-Fresh.is q c.requires.hears);
      restart = e.restart;
      no_swap = e.no_swap;
      full_swaps = e.full_swaps;
      full_nodes = e.full_nodes;
      learns = λ stage s now same good free facts tells. no-slot (crown_of t) s c.args.slots.now (Word 1)
          (fresh-known t.config (crown_of t) c.args.seen stage s (subst (λ z. crown_facts (crown_of t) z stage s) c.in-Fresh.is facts) (subst (λ z. Tells (crown_asks t.config (crown_of t) z) stage c.args.seen s) c.in-Fresh.is tells));
    }

pub returns-in-Word : goal.returns-in-Word
returns-in-Word c =
    let t = c.args.self.now in
    let i = c.in-Word.i in
    let k = c.requires.known in
    let v = c.word_in.result in
    let n = c.next_place-next in
    let hears : Hears (crown_asks t.config (crown_of t) (Word i)) c.args.seen = subst (λ z. Hears (crown_asks t.config (crown_of t) z) c.args.seen) c.in-Word.is c.requires.hears in
    let l : i < NODE_WORDS = word-within (crown_of t) i k.stage k.scene (subst (λ z. crown_facts (crown_of t) z k.stage k.scene) c.in-Word.is k.holds) in
    let b : Words t.config (crown_of t) i c.args.seen c.after_word-self.result c.args.slots.now = subst (λ z. Words t.config (crown_of t) i c.args.seen z c.args.slots.now) (sym c.after_word-self.ensures)
    (words-on t.config (crown_of t) i n.result n.ensures.after n.ensures.within c.args.seen k.stage k.scene c.args.slots.now k.config k.good hears (subst (λ z. crown_facts (crown_of t) z k.stage k.scene) c.in-Word.is k.holds)) in
    let e : EndsWell t.upper t.lower c.args.seen t.phase c.after_word-self.result c.args.slots.now = subst (λ z. EndsWell t.upper t.lower c.args.seen z c.after_word-self.result c.args.slots.now) (sym c.in-Word.is) b.ends in
    let m : Counts t.config (crown_of t) t.phase c.after_word-self.result c.args.seen = counts t.config (crown_of t) t.phase c.after_word-self.result c.args.seen (ap crown_swaps c.in-Word.is) (ap (λ z. swaps_in (crown_asks t.config (crown_of t) z)) c.in-Word.is) c.requires.hears in
    record {
      config = refl;
      upper = refl;
      known = subst IsConfig k.config k.good.config;
      begun = b.begun;
      ready = subst (IsReadyCrown t.config (kept-of t i v)) (sym c.after_word-self.ensures)
          (word-ready t.config (crown_of t) (slice_set t.read.0 i v) n.result (subst (IsReadyCrown t.config (crown_of t)) c.after_word-self.ensures b.ready));
      nearer = omega (arith, b.nearer, ap crown_left c.in-Word.is);
      fewer = m.fewer;
      counted = λ z. m.counted;
      slots = takes-none t.phase c.after_word-self.result c.args.slots.now (omega (arith, b.fewer, ap crown_needs c.in-Word.is));
      kept = λ outcome q. refl;
      begins = λ q. absurd (heard-in t.config (crown_of t) t.phase (Word i) c.args.seen Start c.in-Word.is q c.requires.hears);
      done = e.done;
      last = λ q. absurd (heard-in t.config (crown_of t) t.phase (Word i) c.args.seen (Swapped true) c.in-Word.is q c.requires.hears);
      restart = e.restart;
      no_swap = e.no_swap;
      full_swaps = e.full_swaps;
      full_nodes = e.full_nodes;
      learns = λ stage s now same good free facts tells. subst (λ z. crown_facts (kept-of t i v) z Waiting (gained s c.args.slots.now c.args.slots.now)) (sym c.after_word-self.ensures)
          (no-slot (kept-of t i v) s c.args.slots.now (word_after n.result)
          (word-known t.config (crown_of t) i n.result v c.args.seen stage s same good n.ensures.after n.ensures.within n.ensures.skipped (λ w q. c.word_in.ensures w q) (subst (λ z. crown_facts (crown_of t) z stage s) c.in-Word.is facts) (subst (λ z. Tells (crown_asks t.config (crown_of t) z) stage c.args.seen s) c.in-Word.is tells)));
    }
