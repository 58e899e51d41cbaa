-- Building only adds: what a state has, every later state has at the same place. Building again finds it there.
use Rattle.std.specs.Prelude.{◌≡◌, List, ◌++◌}
use Rattle.normal_form.specs.Builder.{St, Build}

pub record Prefix {A : Type 0} (l m : List A) : Type 0 where
  pub rest : List A
  pub whole : m ≡ l ++ rest

pub record Grows (s t : St) : Type 0 where
  pub rows : Prefix s.rows t.rows
  pub twins : Prefix s.twins t.twins

-- A step that only grows the state, and that, taken again in any state grown from there, gives the same value and adds nothing.
pub record Steady {A : Type 0} (m : Build A) : Type 0 where
  pub grow : (s : St) → Grows s (m s).st
  pub again : (s t : St) → Grows (m s).st t → m t ≡ record { value = (m s).value; st = t }
