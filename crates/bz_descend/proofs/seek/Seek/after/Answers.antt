use Rattle.std.proofs.Common.{◌≡◌, ◌+◌, ◌-◌, ◌<◌, arith, refl, sym, ap, subst}
use Rattle.std.specs.Prelude.{Some, slice_get}
use Rattle.bz_key.specs.Packing.{packed_len}
use Rattle.bz_word.specs.declared.meta.Extent.{Extent}
use Rattle.bz_task.specs.declared.todo.Seen.TheVariants.{Start, Read as Was}
use Rattle.bz_descend.specs.Facts.{IsInNode}
use Rattle.bz_descend.specs.declared.sight.Way.TheVariants.{Fresh, Guard, Root, Header, Status, Meta, Word, First, Pointer}
use Rattle.bz_descend.proofs.SeekGoing.{Turns, bounds-at, seek-heard-at, turns-in, guard-turns, root-turns, header-low, header-turns, status-turns, meta-turns, word-turns, first-turns, pointer-turns, is-first, fresh-turns, fresh-seen, unread}
use Rattle.bz_descend.proofs.Seeking.{by-way, seen-guard, seen-root, seen-header, seen-status, seen-meta, seen-word, seen-first, seen-pointer}
use Rattle.bz_descend.proofs.seek.Seek.after.Goals as goal

pub returns-in-Guard-Read : goal.returns-in-Guard-Read
returns-in-Guard-Read c =
    let t = c.args.self.now in let i = c.in-Guard-Read in
    let g = turns-in t.config t.path t.path t.phase Guard (Root i.status) c.args.seen (Was i.status) i.is-0 i.is-1 (guard-turns t.config t.path i.status) in
    record {
      config = refl;
      key = refl;
      asked = refl;
      low = c.requires.low;
      begun = g.begun;
      begins = g.begins;
      nearer = g.nearer;
      reads = g.reads;
      bounds = g.bounds;
      restart = g.restart;
      learns = λ stage s same good.
          by-way t.key t.path t.height t.words t.config _ stage s t.phase Guard c.args.seen (Was i.status) i.is-0 i.is-1
          (seen-guard t.key t.path t.height t.words t.config s same good stage i.status);
    }

pub returns-in-Root-Read : goal.returns-in-Root-Read
returns-in-Root-Read c =
    let t = c.args.self.now in let i = c.in-Root-Read in
    let n = c.to_root-self.result in let e = c.to_root-self.ensures in
    let h = seek-heard-at t.config t.path.depth t.phase (Root i.status) c.args.seen (Was i.pointer) i.is-0 i.is-1 c.requires.heard in
    let g = turns-in t.config t.path n t.phase (Root i.status) (Header (i.pointer - 1)) c.args.seen (Was i.pointer) i.is-0 i.is-1 (root-turns t.config t.path n i.status i.pointer e.depth h) in
    record {
      config = refl;
      key = refl;
      asked = refl;
      low = c.requires.low;
      begun = g.begun;
      begins = g.begins;
      nearer = g.nearer;
      reads = g.reads;
      bounds = g.bounds;
      restart = g.restart;
      learns = λ stage s same good.
          by-way t.key t.path t.height t.words t.config _ stage s t.phase (Root i.status) c.args.seen (Was i.pointer) i.is-0 i.is-1
          (seen-root t.key t.path t.height t.words t.config s same good stage i.status i.pointer n e.depth e.link);
    }

pub returns-in-Header-Read : goal.returns-in-Header-Read
returns-in-Header-Read c =
    let t = c.args.self.now in let i = c.in-Header-Read in
    let n = c.arrived.result in let high = c.level_of-self.result in
    let b = bounds-at t.config t.path.depth t.phase (Header i.slot) i.is-0 c.requires.bounds in
    let h = seek-heard-at t.config t.path.depth t.phase (Header i.slot) c.args.seen (Was i.word) i.is-0 i.is-1 c.requires.heard in
    let low = header-low t.config t.path i.slot i.word high b h c.level_of-self.ensures in
    let g = turns-in t.config t.path t.path t.phase (Header i.slot) n c.args.seen (Was i.word) i.is-0 i.is-1 (subst (λ z. Turns t.config t.path t.path (Header i.slot) z (Was i.word)) (sym c.arrived.ensures) (header-turns t.config t.path i.slot i.word high b low)) in
    record {
      config = refl;
      key = refl;
      asked = refl;
      low = low;
      begun = g.begun;
      begins = g.begins;
      nearer = g.nearer;
      reads = g.reads;
      bounds = g.bounds;
      restart = g.restart;
      learns = λ stage s same good.
          rw c.arrived.ensures (by-way t.key t.path t.height t.words t.config _ stage s t.phase (Header i.slot) c.args.seen (Was i.word) i.is-0 i.is-1
          (seen-header t.key t.path t.height t.words t.config s same good stage i.slot i.word high b.1 (c.level_of-self.ensures h.0)));
    }

pub returns-in-Status-Read : goal.returns-in-Status-Read
returns-in-Status-Read c =
    let t = c.args.self.now in let i = c.in-Status-Read in
    let n = c.first_sight.result in let e = c.first_sight.ensures in
    let b = bounds-at t.config t.path.depth t.phase (Status i.slot) i.is-0 c.requires.bounds in
    let h = seek-heard-at t.config t.path.depth t.phase (Status i.slot) c.args.seen (Was i.status) i.is-0 i.is-1 c.requires.heard in
    let g = turns-in t.config t.path t.path t.phase (Status i.slot) n c.args.seen (Was i.status) i.is-0 i.is-1 (status-turns t.config t.path i.slot i.status n b h e.frozen e.thawed) in
    record {
      config = refl;
      key = refl;
      asked = refl;
      low = c.requires.low;
      begun = g.begun;
      begins = g.begins;
      nearer = g.nearer;
      reads = g.reads;
      bounds = g.bounds;
      restart = g.restart;
      learns = λ stage s same good.
          by-way t.key t.path t.height t.words t.config _ stage s t.phase (Status i.slot) c.args.seen (Was i.status) i.is-0 i.is-1
          (seen-status t.key t.path t.height t.words t.config s same good stage i.slot i.status n e.frozen e.thawed);
    }

pub returns-in-Meta-Read : goal.returns-in-Meta-Read
returns-in-Meta-Read c =
    let t = c.args.self.now in let i = c.in-Meta-Read in
    let n = c.extent_of.result in let e = c.extent_of.ensures in
    let b = bounds-at t.config t.path.depth t.phase (Meta i.sight) i.is-0 c.requires.bounds in
    let h = seek-heard-at t.config t.path.depth t.phase (Meta i.sight) c.args.seen (Was i.word) i.is-0 i.is-1 c.requires.heard in
    let g = turns-in t.config t.path t.path t.phase (Meta i.sight) (Word i.sight n 0) c.args.seen (Was i.word) i.is-0 i.is-1 (meta-turns t.config t.path i.sight n i.word b (subst IsInNode (sym e) h.0) (subst (λ z. 0 < z.key) (sym e) h.1)) in
    record {
      config = refl;
      key = refl;
      asked = refl;
      low = c.requires.low;
      begun = g.begun;
      begins = g.begins;
      nearer = g.nearer;
      reads = g.reads;
      bounds = g.bounds;
      restart = g.restart;
      learns = λ stage s same good.
          rw e (by-way t.key t.path t.height t.words t.config _ stage s t.phase (Meta i.sight) c.args.seen (Was i.word) i.is-0 i.is-1
          (seen-meta t.key t.path t.height t.words t.config s same good stage i.sight i.word));
    }

pub returns-in-Word-Read : goal.returns-in-Word-Read
returns-in-Word-Read c =
    let t = c.args.self.now in let i = c.in-Word-Read in
    let n = c.after_word.result in let e = c.after_word.ensures in
    let b = bounds-at t.config t.path.depth t.phase (Word i.sight i.extent i.i) i.is-0 c.requires.bounds in
    let g = turns-in t.config t.path t.path t.phase (Word i.sight i.extent i.i) n c.args.seen (Was i.word) i.is-0 i.is-1 (word-turns t.config t.path i.sight i.extent i.i i.word n b e.more e.either) in
    record {
      config = refl;
      key = refl;
      asked = refl;
      low = c.requires.low;
      begun = g.begun;
      begins = g.begins;
      nearer = g.nearer;
      reads = g.reads;
      bounds = g.bounds;
      restart = g.restart;
      learns = λ stage s same good.
          by-way t.key t.path t.height t.words t.config _ stage s t.phase (Word i.sight i.extent i.i) c.args.seen (Was i.word) i.is-0 i.is-1
          (seen-word t.key t.path t.height t.words t.config s same good stage i.sight i.extent i.i i.word n c.is_whole.ensures e.more e.done);
    }

pub returns-in-First-Read : goal.returns-in-First-Read
returns-in-First-Read c =
    let t = c.args.self.now in let i = c.in-First-Read in
    let n = c.extent_of-extent.result in let e = c.extent_of-extent.ensures in
    let b = bounds-at t.config t.path.depth t.phase (First i.probe) i.is-0 c.requires.bounds in
    let h = seek-heard-at t.config t.path.depth t.phase (First i.probe) c.args.seen (Was i.word) i.is-0 i.is-1 c.requires.heard in
    let g = turns-in t.config t.path t.path t.phase (First i.probe) (Pointer (record i.probe { pointer = n.offset + c.words_for.result })) c.args.seen (Was i.word) i.is-0 i.is-1 (first-turns t.config t.path i.probe n i.word (n.offset + c.words_for.result) b (subst IsInNode (sym e) h) (omega (arith, c.words_for.ensures.words))) in
    record {
      config = refl;
      key = refl;
      asked = refl;
      low = c.requires.low;
      begun = g.begun;
      begins = g.begins;
      nearer = g.nearer;
      reads = g.reads;
      bounds = g.bounds;
      restart = g.restart;
      learns = λ stage s same good.
          by-way t.key t.path t.height t.words t.config _ stage s t.phase (First i.probe) c.args.seen (Was i.word) i.is-0 i.is-1
          (seen-first t.key t.path t.height t.words t.config s same good stage i.probe i.word (n.offset + c.words_for.result)
          (omega (arith, c.words_for.ensures.words, ap (λ (z : Extent). z.offset) e, ap (λ (z : Extent). packed_len z.key) e)));
    }

pub returns-in-Pointer-Read : goal.returns-in-Pointer-Read
returns-in-Pointer-Read c =
    let t = c.args.self.now in let i = c.in-Pointer-Read in
    let n = c.with_link-self.result in let e = c.with_link-self.ensures in
    let b = bounds-at t.config t.path.depth t.phase (Pointer i.probe) i.is-0 c.requires.bounds in
    let h = seek-heard-at t.config t.path.depth t.phase (Pointer i.probe) c.args.seen (Was i.pointer) i.is-0 i.is-1 c.requires.heard in
    let g = turns-in t.config t.path n t.phase (Pointer i.probe) c.arrived-in-Pointer-Read.result c.args.seen (Was i.pointer) i.is-0 i.is-1 (subst (λ z. Turns t.config t.path n (Pointer i.probe) z (Was i.pointer)) (sym c.arrived-in-Pointer-Read.ensures) (pointer-turns t.config t.path n c.link.result i.probe i.pointer t.height b h c.requires.low c.link.ensures e.depth e.link e.others)) in
    record {
      config = refl;
      key = refl;
      asked = refl;
      low = c.requires.low;
      begun = g.begun;
      begins = g.begins;
      nearer = g.nearer;
      reads = g.reads;
      bounds = g.bounds;
      restart = g.restart;
      learns = λ stage s same good.
          rw c.arrived-in-Pointer-Read.ensures (by-way t.key t.path t.height t.words t.config _ stage s t.phase (Pointer i.probe) c.args.seen (Was i.pointer) i.is-0 i.is-1
          (seen-pointer t.key t.path t.height t.words t.config s same good stage i.probe i.pointer n e.depth (subst (λ z. slice_get n.links t.path.depth ≡ Some z) c.link.ensures e.link) e.others));
    }

pub returns-in_default-9 : goal.returns-in_default-9
returns-in_default-9 c =
    let t = c.args.self.now in let n = c.in_default in
    let w = is-first t.config c.args.seen t.phase c.requires.hears n.not-Guard-0 n.not-Root-0 n.not-Header-0 n.not-Status-0 n.not-Meta-0 n.not-Word-0 n.not-First-0 n.not-Pointer-0 in
    let g = turns-in t.config t.path t.path t.phase Fresh Guard c.args.seen Start w.fresh w.start (fresh-turns t.config t.path) in
    record {
      config = refl;
      key = refl;
      asked = refl;
      low = c.requires.low;
      begun = g.begun;
      begins = g.begins;
      nearer = g.nearer;
      reads = g.reads;
      bounds = g.bounds;
      restart = g.restart;
      learns = λ stage s same good. by-way t.key t.path t.height t.words t.config _ stage s t.phase Fresh c.args.seen Start w.fresh w.start (fresh-seen t.key t.path t.height t.words t.config stage s);
    }

pub returns-in_default : goal.returns-in_default
returns-in_default c = let t = c.args.self.now in absurd (unread t.config t.phase _ _ c.args.seen c.in_default.is-0 refl c.requires.hears c.in_default.not-Read-1)

pub returns-in_default-2 : goal.returns-in_default-2
returns-in_default-2 c = let t = c.args.self.now in absurd (unread t.config t.phase _ _ c.args.seen c.in_default.is-0 refl c.requires.hears c.in_default.not-Read-1)

pub returns-in_default-3 : goal.returns-in_default-3
returns-in_default-3 c = let t = c.args.self.now in absurd (unread t.config t.phase _ _ c.args.seen c.in_default.is-0 refl c.requires.hears c.in_default.not-Read-1)

pub returns-in_default-4 : goal.returns-in_default-4
returns-in_default-4 c = let t = c.args.self.now in absurd (unread t.config t.phase _ _ c.args.seen c.in_default.is-0 refl c.requires.hears c.in_default.not-Read-1)

pub returns-in_default-5 : goal.returns-in_default-5
returns-in_default-5 c = let t = c.args.self.now in absurd (unread t.config t.phase _ _ c.args.seen c.in_default.is-0 refl c.requires.hears c.in_default.not-Read-1)

pub returns-in_default-6 : goal.returns-in_default-6
returns-in_default-6 c = let t = c.args.self.now in absurd (unread t.config t.phase _ _ c.args.seen c.in_default.is-0 refl c.requires.hears c.in_default.not-Read-1)

pub returns-in_default-7 : goal.returns-in_default-7
returns-in_default-7 c = let t = c.args.self.now in absurd (unread t.config t.phase _ _ c.args.seen c.in_default.is-0 refl c.requires.hears c.in_default.not-Read-1)

pub returns-in_default-8 : goal.returns-in_default-8
returns-in_default-8 c = let t = c.args.self.now in absurd (unread t.config t.phase _ _ c.args.seen c.in_default.is-0 refl c.requires.hears c.in_default.not-Read-1)
