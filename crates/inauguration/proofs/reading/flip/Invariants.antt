use Rattle.std.proofs.Common.{◌≡◌, ℕ, ◌<◌, ◌≤◌, get_or}
use Rattle.train.specs.Line.{turn}
use Rattle.inauguration.specs.declared.awake.Awake.{Awake}
use Rattle.inauguration.specs.Consists.{coupled}
use Rattle.inauguration.proofs.reading.flip.Given as goal

abbrev pub invariant-loop-consist : goal.invariant-loop-consist
invariant-loop-consist l = record {
  done : (k : ℕ) (d : Awake) → k < l.consist-index → coupled (get_or l.consist-items k d) ≡ turn (coupled (get_or l.initial.consist-items k d));
  left : (k : ℕ) (d : Awake) → l.consist-index ≤ k → get_or l.consist-items k d ≡ get_or l.initial.consist-items k d;
}
