-- What an entry leaves of the tables that it was lent: whatever they hold then, they are the same. A definition alone.
use Rattle.std.specs.Prelude.{◌≡◌}
use Rattle.perform.specs.Performed.{SameTables}
use Rattle.solver.specs.declared.tables.Tables.{Tables}

-- The tables are those still that were lent.
pub record SameLent (before after : Tables) : Type 0 where
  pub places : after.places.ghost_name ≡ before.places.ghost_name
  pub assumed : after.assumed.ghost_name ≡ before.assumed.ghost_name
  pub node_variables : after.node_variables.ghost_name ≡ before.node_variables.ghost_name
  pub work : SameTables before.work after.work
  pub marks : after.marks.ghost_name ≡ before.marks.ghost_name
