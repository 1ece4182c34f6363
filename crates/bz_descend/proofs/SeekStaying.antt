-- What a descent by halving has learnt stays.
use Rattle.std.proofs.Common.{◌≡◌, ℕ, ◌+◌, ◌≤◌, true, List, sym, ◌∙◌}
use Rattle.std.specs.Prelude.{slice_index}
use Rattle.bz_tree.specs.Order.{is_before}
use Rattle.bz_slotted.specs.Page.{extent_of, page}
use Rattle.bz_slotted.specs.Readers.{key_of}
use Rattle.bz_word.specs.declared.meta.Extent.{Extent}
use Rattle.bz_task.specs.Instant.{words, page_at}
use Rattle.bz_task.specs.Scene.{Past, Scene, Stage, Waiting, Took, Continues, IsLawful, HasFilled}
use Rattle.bz_task.specs.declared.path.Path.{Path}
use Rattle.bz_task.proofs.Proved.{paths_stay}
use Rattle.bz_descend.specs.Halving.{Narrows, Sees, ReadsSeparator, SeesFirst}
use Rattle.bz_descend.specs.SeekFacts.{seek_learnt, seek_facts}
use Rattle.bz_descend.specs.declared.sight.Probe.{Probe}
use Rattle.bz_descend.specs.declared.sight.Sight.{Sight}
use Rattle.bz_descend.specs.declared.sight.Way.{Way}
use Rattle.bz_descend.specs.declared.sight.Way.TheVariants.{Fresh, Guard, Root, Header, Status, Meta, Word, First, Pointer, Found, Changed}
use Rattle.bz_descend.proofs.Staying.{moved, guard, arrives, at-inner, opened, chosen, meets-frozen}

module _ (p q : Past) (n : Continues p q) where
  abbrev sees : (key : List ℕ) (path : Path) (r : Sight) → Sees key path r p → Sees key path r q
  sees key path r l = record {
    opened = opened p q n key path r.slot r.status l.opened;
    all = moved p q n (λ c x. r.count ≡ (page (words c x r.slot)).count) l.opened.guarded l.opened.until l.all;
    narrows = moved p q n (λ c x. Narrows key (words c x r.slot) r.pointer r.part.low r.part.high) l.opened.guarded l.opened.until l.narrows;
    index = l.index;
    some = l.some;
  }

  abbrev reads : (key : List ℕ) (path : Path) (ws : List ℕ) (r : Sight) (e : Extent) (i : ℕ) → ReadsSeparator key path ws r e i p → ReadsSeparator key path ws r e i q
  reads key path ws r e i k = record {
    sees = sees key path r k.sees;
    extent = moved p q n (λ c x. extent_of ((page (words c x r.slot)).meta r.part.index) ≡ e) k.sees.opened.guarded k.sees.opened.until k.extent;
    within = k.within;
    read = λ t l. moved p q n (λ c x. slice_index ws t ≡ words c x r.slot (e.offset + t)) k.sees.opened.guarded k.sees.opened.until (k.read t l);
  }

  abbrev sees-first : (key : List ℕ) (path : Path) (r : Probe) → SeesFirst key path r p → SeesFirst key path r q
  sees-first key path r l = record {
    opened = opened p q n key path r.slot r.status l.opened;
    all = moved p q n (λ c x. r.count ≡ (page (words c x r.slot)).count) l.opened.guarded l.opened.until l.all;
    right = λ d. moved p q n (λ c x. is_before key (key_of (words c x r.slot) 1) ≡ true) l.opened.guarded l.opened.until (l.right d);
  }

  level : (key : List ℕ) (path : Path) (height k met : ℕ) → met ≤ p.now → (page_at p.config (p.at met) k).level + path.depth ≡ height + 1 → (page_at q.config (q.at met) k).level + path.depth ≡ height + 1
  level key path height k met until h = moved p q n (λ c x. (page_at c x k).level + path.depth ≡ height + 1) met until h

  learnt : (key : List ℕ) (path : Path) (height : ℕ) (ws : List ℕ) (phase : Way) → seek_learnt key path height ws phase p → seek_learnt key path height ws phase q
  learnt key path height ws Fresh f = tt
  learnt key path height ws Guard f = tt
  learnt key path height ws (Root st) f = guard p q n st f
  learnt key path height ws (Header k) f = arrives p q n key path k f
  learnt key path height ws (Status k) f = (at-inner p q n key path k f.0, level key path height k f.0.node.met f.0.node.until f.1)
  learnt key path height ws (Meta r) f = (sees key path r f.0, level key path height r.slot f.0.opened.at_inner.node.met f.0.opened.at_inner.node.until f.1)
  learnt key path height ws (Word r e i) f = (reads key path ws r e i f.0, level key path height r.slot f.0.sees.opened.at_inner.node.met f.0.sees.opened.at_inner.node.until f.1)
  learnt key path height ws (First r) f = (sees-first key path r f.0, level key path height r.slot f.0.opened.at_inner.node.met f.0.opened.at_inner.node.until f.1)
  learnt key path height ws (Pointer r) f = (chosen p q n key path r f.0, level key path height r.slot f.0.opened.at_inner.node.met f.0.opened.at_inner.node.until f.1)
  learnt key path height ws Found f = (paths_stay key path p q f.0 n, f.1)
  learnt key path height ws Changed f = meets-frozen p q n key path f

both : (key : List ℕ) (path : Path) (height : ℕ) (ws : List ℕ) (phase : Way) (s after : Scene) → IsLawful s after → HasFilled s × seek_learnt key path height ws phase s.past → HasFilled after × seek_learnt key path height ws phase after.past
both key path height ws phase s after step f = (λ k t. step.filled k ∙ f.0 k (sym (step.took k) ∙ t), learnt s.past after.past step.continues key path height ws phase f.1)

pub seek-stable : (key : List ℕ) (path : Path) (height : ℕ) (ws : List ℕ) (phase : Way) (stage : Stage) (s after : Scene) → seek_facts key path height ws phase stage s → IsLawful s after → seek_facts key path height ws phase stage after
seek-stable key path height ws phase Took s after f step = f
seek-stable key path height ws Fresh Waiting s after f step = tt
seek-stable key path height ws Guard Waiting s after f step = both key path height ws Guard s after step f
seek-stable key path height ws (Root st) Waiting s after f step = both key path height ws (Root st) s after step f
seek-stable key path height ws (Header k) Waiting s after f step = both key path height ws (Header k) s after step f
seek-stable key path height ws (Status k) Waiting s after f step = both key path height ws (Status k) s after step f
seek-stable key path height ws (Meta r) Waiting s after f step = both key path height ws (Meta r) s after step f
seek-stable key path height ws (Word r e i) Waiting s after f step = both key path height ws (Word r e i) s after step f
seek-stable key path height ws (First r) Waiting s after f step = both key path height ws (First r) s after step f
seek-stable key path height ws (Pointer r) Waiting s after f step = both key path height ws (Pointer r) s after step f
seek-stable key path height ws Found Waiting s after f step = both key path height ws Found s after step f
seek-stable key path height ws Changed Waiting s after f step = both key path height ws Changed s after step f
