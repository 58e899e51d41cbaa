-- The finite-domain tables that a call is lent, as the definitions have them.
use Rattle.finite_domain.specs.declared.FiniteTables.{FiniteTables}
use Rattle.finite_domain.specs.Table.{FiniteLent, finite_lent}

abbrev pub lent_finite : FiniteTables → FiniteLent
lent_finite t = finite_lent t.head t.counts.now t.initial.now t.formulas.now t.effects.now t.operators.now
