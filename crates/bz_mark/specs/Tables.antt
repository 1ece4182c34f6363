-- How the compact marks stand for marks: the calls and the replies lie in tables beside them.
use Rattle.std.specs.Prelude.{◌<◌, ℕ, List, [], ◌∷◌, map, reverse}
use Rattle.std.proofs.Common.{get_or}
use Rattle.bz_call.specs.declared.calls.Call.{Call}
use Rattle.bz_call.specs.declared.calls.Call.TheVariants.{Get}
use Rattle.bz_call.specs.declared.replies.Reply.{Reply}
use Rattle.bz_call.specs.declared.replies.Reply.TheVariants.{Missing}
use Rattle.bz_mark.specs.declared.marks.Mark.{Mark}
use Rattle.bz_mark.specs.declared.marks.Mark.TheVariants as mark
use Rattle.bz_mark.specs.declared.compact.CompactMark.{CompactMark}
use Rattle.bz_mark.specs.declared.compact.CompactMark.TheVariants.{Begin, End, Load, Store, Cas, Ask, Fence, Evict, Cut, On, Ready, Effect}

-- the mark that a compact one stands for
abbrev pub whole : List Call → List Reply → CompactMark → Mark
whole calls replies (Begin w n place) = mark.Begin w n (get_or calls place (Get []))
whole calls replies (End w n place at) = mark.End w n (get_or replies place Missing) at
whole calls replies (Load w a v) = mark.Load w a v
whole calls replies (Store w a v) = mark.Store w a v
whole calls replies (Cas w a old new found) = mark.Cas w a old new found
whole calls replies (Ask w line) = mark.Ask w line
whole calls replies (Fence w) = mark.Fence w
whole calls replies (Evict a) = mark.Evict a
whole calls replies Cut = mark.Cut
whole calls replies On = mark.On
whole calls replies Ready = mark.Ready
whole calls replies (Effect w n) = mark.Effect w n

-- each place is one of its table
abbrev pub IsPlaced : ℕ → ℕ → CompactMark → Type 0
IsPlaced calls replies (Begin w n place) = place < calls
IsPlaced calls replies (End w n place at) = place < replies
IsPlaced calls replies mark = Unit {0}

abbrev pub ArePlaced : ℕ → ℕ → List CompactMark → Type 0
ArePlaced calls replies [] = Unit {0}
ArePlaced calls replies (mark ∷ marks) = IsPlaced calls replies mark × ArePlaced calls replies marks

-- the marks, the newest first
abbrev pub past_of : List Call → List Reply → List CompactMark → List Mark
past_of calls replies marks = reverse (map (whole calls replies) marks)

-- a compact mark that stands for itself
abbrev pub IsPlain : CompactMark → Type 0
IsPlain (Begin w n place) = ⊥
IsPlain (End w n place at) = ⊥
IsPlain mark = Unit {0}

abbrev pub plain_mark : CompactMark → Mark
plain_mark mark = whole [] [] mark
