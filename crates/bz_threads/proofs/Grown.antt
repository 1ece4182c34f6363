-- Turns that end the calls which are open only add marks to a journal.
use Rattle.std.proofs.Common.{◌≡◌, ℕ, zero, suc, ◌+◌, List, [], ◌++◌, refl, sym, ap, subst, ◌∙◌, append_assoc}
use Rattle.bz_mark.specs.declared.marks.Mark.{Mark}
use Rattle.bz_sched.proofs.TurnAdds.{turn_adds}
use Rattle.bz_sched.specs.OpenCalls.{TurnsWhileOpen, EndsCallsFrom}
use Rattle.bz_sched.specs.Points.{Point}

abbrev pub Grown : List Mark → List Mark → Type 0
Grown old new = (added : List Mark) × (new ≡ added ++ old)

pub grown_both : (a b c : List Mark) → Grown a b → Grown b c → Grown a c
grown_both a b c (xs, e) (ys, f) = (ys ++ xs, f ∙ ap (λ (past : List Mark). ys ++ past) e ∙ sym (append_assoc ys xs a))

turns_grow : (w count : ℕ) (old new : Point) → TurnsWhileOpen w count old new → Grown old.past new.past
turns_grow w zero old new is = subst (λ (point : Point). Grown old.past point.past) (sym is.1) ([], refl)
turns_grow w (suc count) old new (is_open, (mid, turn, rest)) =
    let adds = turn_adds w old mid turn in
    grown_both old.past mid.past new.past (adds.added, adds.is) (turns_grow w count mid new rest)

pub ends_grow : (w more : ℕ) (old new : Point) → EndsCallsFrom w more old new → Grown old.past new.past
ends_grow w zero old new is = subst (λ (point : Point). Grown old.past point.past) (sym is) ([], refl)
ends_grow w (suc more) old new (mid, (count, turns), rest) = grown_both old.past mid.past new.past (turns_grow w count old mid turns) (ends_grow (w + 1) more mid new rest)
