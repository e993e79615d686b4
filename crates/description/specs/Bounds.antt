-- The bounds of a description's values: what fits its bytes, and what is granted.
use Rattle.std.specs.Prelude.{ℕ, ◌^◌, ◌<◌, ◌≤◌}
use Rattle.mesh.specs.declared.joint.Joint.{Joint}
use Rattle.description.specs.declared.step.WindowStep.{WindowStep}
use Rattle.description.specs.declared.step.RangeStep.{RangeStep}
use Rattle.description.specs.declared.step.Step.{Step}
use Rattle.description.specs.declared.step.Step.TheVariants.{Window, Range, Balance}
use Rattle.description.specs.Format.{Head}

pub record HeadFits (h : Head) : Type 0 where
  pub scheme_fits : h.scheme < 256
  pub roots_fit : h.roots < 256 ^ 2
  pub level_fits : h.level < 256
  pub limit_fits : h.limit < 256
  pub rows_fit : h.rows < 256 ^ 2

pub record HeadWithin (h : Head) : Type 0 where
  pub scheme_from : 1 ≤ h.scheme
  pub scheme_to : h.scheme ≤ 5
  pub roots_from : 1 ≤ h.roots
  pub roots_to : h.roots ≤ 256
  pub level_to : h.level ≤ 18
  pub limit_to : h.limit ≤ 18
  pub rows_to : h.rows ≤ 1024

pub record RowFits (j : Joint) : Type 0 where
  pub root_fits : j.root < 256 ^ 2
  pub face_fits : j.face < 256
  pub other_root_fits : j.other_root < 256 ^ 2
  pub other_face_fits : j.other_face < 256
  pub turn_fits : j.turn < 256

pub record RowWithin (j : Joint) : Type 0 where
  pub fits : RowFits j
  pub turn_to : j.turn ≤ 1

pub record WindowFits (w : WindowStep) : Type 0 where
  pub root_fits : w.root < 256 ^ 2
  pub target_fits : w.target < 256
  pub x0_fits : w.x0 < 256 ^ 4
  pub y0_fits : w.y0 < 256 ^ 4
  pub x1_fits : w.x1 < 256 ^ 4
  pub y1_fits : w.y1 < 256 ^ 4

-- a window is for the schemes of the plane, 1 to 3; its upper corner bounds every coordinate
pub record WindowWithin (scheme : ℕ) (w : WindowStep) : Type 0 where
  pub fits : WindowFits w
  pub plane : scheme ≤ 3
  pub target_to : w.target ≤ 18
  pub rising_x : w.x0 ≤ w.x1
  pub rising_y : w.y0 ≤ w.y1
  pub x_to : w.x1 ≤ 262144
  pub y_to : w.y1 ≤ 262144

pub record RangeFits (r : RangeStep) : Type 0 where
  pub root_fits : r.root < 256 ^ 2
  pub target_fits : r.target < 256
  pub first_fits : r.first < 256 ^ 8
  pub last_fits : r.last < 256 ^ 8

pub record RangeWithin (r : RangeStep) : Type 0 where
  pub fits : RangeFits r
  pub target_to : r.target ≤ 18
  pub rising : r.first ≤ r.last

abbrev pub StepFits : Step → Type 0
StepFits (Window w) = WindowFits w
StepFits (Range r) = RangeFits r
StepFits Balance = Unit {0}

abbrev pub StepWithin : ℕ → Step → Type 0
StepWithin scheme (Window w) = WindowWithin scheme w
StepWithin scheme (Range r) = RangeWithin r
StepWithin scheme Balance = Unit {0}
