pub mod ControlLaws
pub mod FaultLaws
pub mod ItemLaws
pub mod NumberLaws
pub mod PacketLaws
pub mod PutLaws
