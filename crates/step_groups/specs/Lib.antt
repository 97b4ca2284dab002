-- Definitions: Turns, Asks.
-- Laws: Answers, At, Nodes, Service, Switch, Called, RowTurns, DeskTurns, BoardTurns.
pub mod Turns
pub mod Asks
pub mod Answers
pub mod At
pub mod Nodes
pub mod Service
pub mod Switch
pub mod Called
pub mod RowTurns
pub mod DeskTurns
pub mod BoardTurns
