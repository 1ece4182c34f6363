-- How the flat marks stand for marks, and what a journal keeps true of its parts.
use Rattle.std.specs.Prelude.{◌≤◌, ◌<◌, ◌^◌, List, length, map, reverse, vec_capacity}
use Rattle.bz_mark.specs.declared.marks.Mark.TheVariants as mark
use Rattle.bz_ring.specs.declared.marks.QMark.{QMark}
use Rattle.bz_ring.specs.declared.marks.QMark.TheVariants as whole_mark
use Rattle.bz_ring.specs.declared.flat.FlatMark.{FlatMark}
use Rattle.bz_ring.specs.declared.flat.FlatMark.TheVariants.{Begin, End, Effect, Load, Store, Cas, Ask, Fence, Evict, Cut, On, Ready}
use Rattle.bz_ring.specs.declared.journal.QJournal.TheInside.{Inside}

-- the mark that a flat one stands for
abbrev pub whole : FlatMark → QMark
whole (Begin w n call) = whole_mark.Begin w n call
whole (End w n reply at) = whole_mark.End w n reply at
whole (Effect w n) = whole_mark.Effect w n
whole (Load w a v) = whole_mark.Memory (mark.Load w a v)
whole (Store w a v) = whole_mark.Memory (mark.Store w a v)
whole (Cas w a old new found) = whole_mark.Memory (mark.Cas w a old new found)
whole (Ask w line) = whole_mark.Memory (mark.Ask w line)
whole (Fence w) = whole_mark.Memory (mark.Fence w)
whole (Evict a) = whole_mark.Memory (mark.Evict a)
whole Cut = whole_mark.Memory mark.Cut
whole On = whole_mark.Memory mark.On
whole Ready = whole_mark.Memory mark.Ready

-- the marks, the newest first
abbrev pub past_of : List FlatMark → List QMark
past_of marks = reverse (map whole marks)

pub record IsKept (j : Inside) : Type 0 where
  pub few : length j.marks.items ≤ j.most
  pub fits : j.most < 2 ^ 32
  pub room : j.most ≤ vec_capacity j.marks
