-- The rows in use of a table are in order, and as many as it says.
use Rattle.std.specs.Prelude.{◌≡◌, length}
use Rattle.std.proofs.Common.{arith}
use Rattle.std.proofs.lemmas.List.{length-take-le}
use Rattle.rows.specs.Rows.{Rising}
use Rattle.rows.specs.declared.table.Table.{Table}
use Rattle.rows.specs.Tables.{rows_of}
use Rattle.rows.specs.Orders.{rising_from}

module _ (t : Table) where
  pub in_order : Rising 0 (rows_of t)
  in_order = rising_from 0 (rows_of t) t.rises

  pub in_use : length (rows_of t) ≡ t.used
  in_use = length-take-le t.used t.memory.places.items (omega (arith, t.fits, t.memory.places.ok.0))
