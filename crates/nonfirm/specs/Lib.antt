pub mod NonFirm
pub mod NonFirmLaws
