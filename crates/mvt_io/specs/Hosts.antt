-- A reader or a writer of std with its counts.
use Rattle.std.specs.Prelude.{ℕ, Bool}
use Rattle.mvt_io.specs.States.{Faults}

pub record HostState (T : Type 0) : Type 0 where
  pub inner : T
  pub reads : ℕ
  pub empty : ℕ
  pub given : ℕ
  pub asked : ℕ
  pub faults : Faults
  pub writes : ℕ
  pub flushes : ℕ
  pub flushed : Bool
