-- A chip with another state, as a function.
use Rattle.chip.specs.declared.state.State.{State}
use Rattle.chip.specs.Flash.{Flash}

abbrev pub with_state : Flash → State → Flash
with_state f s = record f { state = s }
