pub mod Firm
pub mod FirmLaws
