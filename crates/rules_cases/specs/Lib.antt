-- Definitions: Names, Scope, Fresh, Alone, WhoIsTold.
-- Laws: Equal, Situation, Table, Outside.
pub mod Names
pub mod Equal
pub mod Situation
pub mod Scope
pub mod Fresh
pub mod Alone
pub mod WhoIsTold
pub mod Table
pub mod Outside
